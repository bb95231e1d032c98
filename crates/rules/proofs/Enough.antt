-- How much of both buffers is enough for every problem up to a size: with as much, none is refused for want of it.
use Prim.Native.Nat.{ℕ, ◌+◌, ◌*◌, ◌<◌, ◌≤◌}
use native.Mathlib.Nat.{mul-le-mul}
use native.Mathlib.Omega.{arith}
use mathlib.Core.Path.{◌≡◌, refl, sym, ap, ◌∙◌}
use mathlib.Core.Logic.{inl, inr}
use mathlib.Core.Bool.{Bool, true, false, true≢false}
use mathlib.Core.List.{List, [], ◌∷◌}
use lib.Dec.{leb}
use lib.Ieee.{Float}
use lib.ListN.{length}
use borrow.Author.Tests.{leb-true, leb-false, le-ltb}
use Rattle.rules.specs.declared.Cone.{Cone}
use Rattle.rules.specs.declared.Cone.TheVariants.{Zero, RPos, SOC, RotSOC, PSD}
use Rattle.rules.specs.Limits.{limit}
use Rattle.rules.specs.Matrices.{triangle}
use Rattle.rules.specs.Blocks.{places, total_places}
use Rattle.rules.specs.Projections.{block_work}
use Rattle.rules.specs.Product.{cone_work}
use Rattle.rules.specs.Problem.{Problem, blocks, work_length}
use Rattle.rules.specs.Run.{Left}
use Rattle.rules.specs.Refusals.{bad_cone, work_shortage, number_of, solved, plain_problem}
use Rattle.rules.specs.Split.{SplitProblem, joined_problem, split_solved}
use Rattle.rules.specs.Demands.{AsJoinedOrInvalid}
use Rattle.rules.proofs.Triangle.{triangle_grows}
use Rattle.rules.proofs.Accepted.{sizes_fit, cone_fits}
use Rattle.rules.proofs.Refusals.{turned_away_exactly}
use Rattle.rules.proofs.SplitRuns.{as_joined_or_invalid}

-- An order is the largest of a size where the next one's triangle has more places.
module _ (size order : ℕ) (largest : size < triangle (order + 1)) where
  pub none_larger : (d : ℕ) → triangle d ≤ size → d ≤ order
  none_larger d h = go (leb d order) refl
    where
      go : (small : Bool) → leb d order ≡ small → d ≤ order
      go true e = leb-true d order e
      go false e =
          let l : order < d = leb-false d order e in
          absurd (omega (arith, triangle_grows (order + 1) d (omega arith)))

  block_work_lem : (b : Cone) → places b ≤ size → block_work b ≤ order + order * order
  block_work_lem (Zero k) h = omega arith
  block_work_lem (RPos k) h = omega arith
  block_work_lem (SOC k) h = omega arith
  block_work_lem (RotSOC k) h = omega arith
  block_work_lem (PSD d) h =
      let l = none_larger d h in
      omega (arith, mul-le-mul {n₁ = d} {m₁ = d} {n₂ = order} {m₂ = order} l l)

  cone_work_lem : (bs : List Cone) → total_places bs ≤ size → cone_work bs ≤ order + order * order
  unfolding total_places cone_work
  cone_work_lem [] h = omega arith
  cone_work_lem (b ∷ bs) h = omega (arith, block_work_lem b (omega arith), cone_work_lem bs (omega arith))

  enough : (p : Problem) (work cone : ℕ) → p.n ≤ size → p.m ≤ size → work_length size size ≤ work → order + order * order ≤ cone → bad_cone p ≡ false → work_shortage p work cone ≡ false
  unfolding work_shortage
  enough p work cone hn hm hw hc e =
      let plain = blocks (plain_problem p) in
      let total : total_places plain ≤ size = rw (cone_fits p e).sum hm in
      let few : cone_work plain ≤ cone = omega (arith, cone_work_lem plain total) in
      rw (le-ltb work (work_length p.m p.n) (omega arith), le-ltb cone (cone_work plain) few)

  -- a problem of no more rows and columns than the size
  pub never_short : (p : Problem) (work cone : List Float) → p.n ≤ size → p.m ≤ size → work_length size size ≤ length work → order + order * order ≤ length cone → number_of (solved p work cone).answer.ending ≡ 6 → ⊥
  never_short p work cone hn hm hw hc six =
      let first = ((turned_away_exactly p work cone).exactly 6 (omega arith)).0 six in
      let fine = enough p (length work) (length cone) hn hm hw hc (first.none_before 4 (omega arith)) in
      true≢false (sym first.holds ∙ fine)

-- any problem: one that is above the limit is refused by 2
pub never_short_at_the_limit : (order : ℕ) → limit < triangle (order + 1) → (p : Problem) (work cone : List Float) → work_length limit limit ≤ length work → order + order * order ≤ length cone → number_of (solved p work cone).answer.ending ≡ 6 → ⊥
never_short_at_the_limit order largest p work cone hw hc six =
    let first = ((turned_away_exactly p work cone).exactly 6 (omega arith)).0 six in
    let sizes = sizes_fit p (first.none_before 2 (omega arith)) in
    never_short limit order largest p work cone sizes.n sizes.m hw hc six

-- and any whose A stands in two slices: it comes to what the joined one comes to, or to InvalidOp
pub split_never_short_at_the_limit : (order : ℕ) → limit < triangle (order + 1) → (p : SplitProblem) (work cone : List Float) → work_length limit limit ≤ length work → order + order * order ≤ length cone → number_of (split_solved p work cone).answer.ending ≡ 6 → ⊥
split_never_short_at_the_limit order largest p work cone hw hc six = go (as_joined_or_invalid p work cone)
  where
    numbered : Left → ℕ
    numbered left = number_of left.answer.ending

    go : AsJoinedOrInvalid p work cone → ⊥
    go (inl same) = never_short_at_the_limit order largest (joined_problem p) work cone hw hc (sym (ap numbered same) ∙ six)
    go (inr other) =
        let three : ◌≡◌ {A = ℕ} 3 6 = sym (ap numbered other.1) ∙ six in
        absurd (omega arith)
