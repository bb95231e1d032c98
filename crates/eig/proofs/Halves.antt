-- The two halves of the projection, over the parts of cone work, and the whole.
use Prim.Native.Nat.{ℕ, zero, suc, ◌+◌, ◌-◌, ◌*◌, ◌<◌, ◌≤◌}
use native.Mathlib.Omega.{arith}
use mathlib.Core.Path.{◌≡◌, refl, sym, ◌∙◌, ap}
use mathlib.Core.Bool.{Bool, true, false, cond, ◌&&◌}
use mathlib.Core.List.{List, ◌++◌, append_assoc}
use Rattle.std.specs.Prelude.{Option, Some, None}
use borrow.Author.Tests.{leb-true, eqb-true, le-leb, eq-eqb}
use borrow.Rule.Slice.PartMut.{put_mid, post_of, Post-is, take_put, drop_put}
use lib.Dec.{leb, eqb}
use lib.Ieee.{Float, nan, lt}
use lib.ListN.{length, take, drop, get_or-append}
use lib.Seq.{take_at, drop_at, length-take-le}
use Rattle.rules.specs.Limits.{limit}
use Rattle.rules.specs.Helpers.{reciprocal}
use Rattle.rules.specs.Arithmetic.{◌+ᶠ◌, ◌*ᶠ◌, +0, at, tabulate}
use Rattle.rules.specs.Matrices.{triangle}
use Rattle.rules.specs.Jacobi.{Rotating, Swept, packed, in_square, jacobi, sweeps_fit, jacobi_fits, swept_answer, JacobiOutcome}
use Rattle.rules.specs.Projections.{√2, diagonal_times, unit, rebuilt_entry, proj_psd, Projected, block_fits, answer_of, BlockOutcome}
use Rattle.rules.specs.declared.Cone.TheVariants.{PSD}
use Rattle.rules.specs.declared.Projection.{Projection}
use Rattle.rules.specs.declared.Projection.TheVariants.{Done, Failed}
use Rattle.rules.specs.declared.SolverParam.{SolverParam}
use Rattle.rules.proofs.Columns.{tabulate-length, tabulate-at, packed_same, square_inside, in_square-place}
use Rattle.rules.proofs.Blocks.{order_in_triangle}
use Rattle.rules.proofs.KernelLengths.{diagonal_times-length, unit-length, sweeps-sized}
use Rattle.rules.proofs.Matrices.{both_true}
use Rattle.jacobi.specs.Sizes.{IsPacked}
use Rattle.eig.specs.Parts.{SweptBlock, RebuiltBlock, value_of}

-- ---- a part of cone work, lent twice

module _ (n m : ℕ) (work a : List Float) (room : n + m ≤ length work) (same : length a ≡ m) where
  lent_again : take (n + m - n) (drop n (put_mid n (n + m - n) work a)) ≡ a
  lent_again =
      ap (λ (l : List Float). take (n + m - n) l) (drop_at (take n work) (a ++ post_of n (n + m - n) work) n (length-take-le n work (omega arith)))
      ∙ take_at a (post_of n (n + m - n) work) (n + m - n) (omega arith)

  put_again : (b : List Float) → put_mid n (n + m - n) (put_mid n (n + m - n) work a) b ≡ take n work ++ b ++ drop (n + m) work
  put_again b =
      ap (λ (l : List Float). l ++ (b ++ post_of n (n + m - n) (put_mid n (n + m - n) work a))) (take_put n (n + m - n) work a (omega arith))
      ∙ ap (λ (l : List Float). take n work ++ (b ++ l)) (Post-is n (n + m) (put_mid n (n + m - n) work a) (omega arith) ∙ drop_put n (n + m) work a (omega arith) room (omega arith))
      ∙ sym (append_assoc (take n work) b (drop (n + m) work))

-- the part for the vectors, after they were made ready
abbrev pub part : ℕ → List Float → List Float → List Float
part n work z = take (n + n * n - n) (drop n (put_mid n (n + n * n - n) work z))

-- Jacobi's method over the block and the part for the vectors, where both were made ready
module _ (par : SolverParam) (n : ℕ) (x work x₁ z₁ : List Float) (room : n + n * n ≤ length work) (is_x : x₁ ≡ diagonal_times √2 n x) (is_z : z₁ ≡ unit n) where
  many : length z₁ ≡ n * n
  many = ap length is_z ∙ unit-length n

  part_is : part n work z₁ ≡ unit n
  part_is = lent_again n (n * n) work z₁ room many ∙ is_z

  pub jacobi_fits_lem : IsPacked n x → sweeps_fit par ≡ true → jacobi_fits par n (length x₁) (length (part n work z₁)) ≡ true
  jacobi_fits_lem sized few =
      rw (le-leb n limit sized.order, eq-eqb (length x₁) (triangle n) (ap length is_x ∙ diagonal_times-length √2 n x), eq-eqb (length (part n work z₁)) (n * n) (ap length part_is ∙ unit-length n)) few

  pub swept_block : {x' z' : List Float} {answer : Option Projection} → IsPacked n x → sweeps_fit par ≡ true → JacobiOutcome (jacobi_fits par n (length x₁) (length (part n work z₁))) (jacobi par n x₁ (part n work z₁)) x₁ (part n work z₁) answer x' z' → SweptBlock n (jacobi par n (diagonal_times √2 n x) (unit n)) work answer x' (put_mid n (n + n * n - n) (put_mid n (n + n * n - n) work z₁) z')
  swept_block {x'} {z'} {answer} sized few o =
      record {
        answered = o.answered ∙ ap (λ (t : Bool). cond t (Some (swept_answer (jacobi par n x₁ (part n work z₁)))) None) fit ∙ ap (λ (s : Swept). Some (swept_answer s)) whole;
        block = o.matrix_left ∙ ap (λ (t : Bool). cond t (jacobi par n x₁ (part n work z₁)).reached.matrix x₁) fit ∙ ap (λ (s : Swept). s.reached.matrix) whole;
        cone_work = put_again n (n * n) work z₁ room many z' ∙ ap (λ (l : List Float). take n work ++ l ++ drop (n + n * n) work) vectors;
        stored = (sweeps-sized n _ par.sweep_limit _ (record { matrix = diagonal_times-length √2 n x; vectors = unit-length n })).vectors;
      }
    where
      fit : jacobi_fits par n (length x₁) (length (part n work z₁)) ≡ true
      fit = jacobi_fits_lem sized few

      whole : jacobi par n x₁ (part n work z₁) ≡ jacobi par n (diagonal_times √2 n x) (unit n)
      whole = ap (λ (l : List Float). jacobi par n l (part n work z₁)) is_x ∙ ap (λ (l : List Float). jacobi par n (diagonal_times √2 n x) l) part_is

      vectors : z' ≡ (jacobi par n (diagonal_times √2 n x) (unit n)).reached.vectors
      vectors =
          o.vectors_left ∙ ap (λ (t : Bool). cond t (jacobi par n x₁ (part n work z₁)).reached.vectors (part n work z₁)) fit ∙ ap (λ (s : Swept). s.reached.vectors) whole

-- ---- eigenvalues and vectors that agree build the same matrix

pub rebuilt_same : (v v' : ℕ → Float) (z z' : ℕ → ℕ → Float) (k r c : ℕ) → ((p : ℕ) → p < k → v p ≡ v' p) → ((p : ℕ) → p < k → z r p ≡ z' r p) → ((p : ℕ) → p < k → z c p ≡ z' c p) → rebuilt_entry v z k r c ≡ rebuilt_entry v' z' k r c
unfolding rebuilt_entry
rebuilt_same v v' z z' zero r c hv hr hc = refl
rebuilt_same v v' z z' (suc k) r c hv hr hc =
    step (v k) (v' k) (z r k) (z' r k) (z c k) (z' c k) (rebuilt_entry v z k r c) (rebuilt_entry v' z' k r c) (hv k (omega arith)) (hr k (omega arith)) (hc k (omega arith))
    (rebuilt_same v v' z z' k r c (λ p l. hv p (omega arith)) (λ p l. hr p (omega arith)) (λ p l. hc p (omega arith)))
  where
    step : (a a' b b' d d' e e' : Float) → a ≡ a' → b ≡ b' → d ≡ d' → e ≡ e' → cond (lt +0 a) (a *ᶠ b *ᶠ d +ᶠ e) e ≡ cond (lt +0 a') (a' *ᶠ b' *ᶠ d' +ᶠ e') e'
    step a a' b b' d d' e e' ea eb ed ee =
        ap (λ (t : Float). cond (lt +0 t) (t *ᶠ b *ᶠ d +ᶠ e) e) ea
        ∙ ap (λ (t : Float). cond (lt +0 a') (a' *ᶠ t *ᶠ d +ᶠ e) e) eb
        ∙ ap (λ (t : Float). cond (lt +0 a') (a' *ᶠ b' *ᶠ t +ᶠ e) e) ed
        ∙ ap (λ (t : Float). cond (lt +0 a') (a' *ᶠ b' *ᶠ d' +ᶠ t) t) ee

pub rebuilt_block : (n : ℕ) (x work w x₁ x' : List Float) (by : Float) → n ≤ length work → w ≡ tabulate n (value_of n x) → x₁ ≡ packed n (rebuilt_entry (at (w ++ post_of 0 (n - 0) work)) (in_square n (drop n (w ++ post_of 0 (n - 0) work))) n) → by ≡ reciprocal √2 → x' ≡ diagonal_times by n x₁ → RebuiltBlock n x work x' (w ++ post_of 0 (n - 0) work)
rebuilt_block n x work w x₁ x' by room is_w is_x₁ is_by is_x' =
    record {
      block =
          is_x'
          ∙ ap (λ (v : Float). diagonal_times v n x₁) is_by
          ∙ ap (λ (l : List Float). diagonal_times (reciprocal √2) n l) (is_x₁ ∙ packed_same n _ _ same);
      cone_work = left;
    }
  where
    left : w ++ post_of 0 (n - 0) work ≡ tabulate n (value_of n x) ++ drop n work
    left =
        ap (λ (l : List Float). l ++ post_of 0 (n - 0) work) is_w
        ∙ ap (λ (l : List Float). tabulate n (value_of n x) ++ l) (Post-is 0 n work (omega arith))

    value : (p : ℕ) → p < n → at (w ++ post_of 0 (n - 0) work) p ≡ value_of n x p
    value p h =
        ap (λ (l : List Float). at l p) left
        ∙ get_or-append (tabulate n (value_of n x)) (drop n work) nan p (omega (arith, tabulate-length n (value_of n x)))
        ∙ tabulate-at n (value_of n x) p h

    rest : drop n (w ++ post_of 0 (n - 0) work) ≡ drop n work
    rest = ap (λ (l : List Float). drop n l) left ∙ drop_at (tabulate n (value_of n x)) (drop n work) n (tabulate-length n (value_of n x))

    vector : (p q : ℕ) → in_square n (drop n (w ++ post_of 0 (n - 0) work)) p q ≡ in_square n (drop n work) p q
    vector p q = ap (λ (l : List Float). in_square n l p q) rest

    same : (r c : ℕ) → r ≤ c → c < n → rebuilt_entry (at (w ++ post_of 0 (n - 0) work)) (in_square n (drop n (w ++ post_of 0 (n - 0) work))) n r c ≡ rebuilt_entry (value_of n x) (in_square n (drop n work)) n r c
    same r c hr hc = rebuilt_same _ _ _ _ n r c value (λ p l. vector r p) (λ p l. vector c p)

-- ---- the whole

abbrev swept_of : SolverParam → ℕ → List Float → Swept
swept_of par n x = jacobi par n (diagonal_times √2 n x) (unit n)

abbrev failed_of : ℕ → List Float → Rotating → Projected
failed_of n work m =
    record { block = m.matrix; work = take n work ++ m.vectors ++ drop (n + n * n) work; rotations = m.rotations; succeeded = false }

abbrev done_of : ℕ → List Float → Rotating → Projected
done_of n work m =
    record {
      block = diagonal_times (reciprocal √2) n (packed n (rebuilt_entry (value_of n m.matrix) (in_square n m.vectors) n));
      work = tabulate n (value_of n m.matrix) ++ m.vectors ++ drop (n + n * n) work;
      rotations = m.rotations;
      succeeded = true;
    }

projected : (par : SolverParam) (n : ℕ) (x work : List Float) (b : Bool) → (swept_of par n x).succeeded ≡ b → proj_psd par n x work ≡ cond b (done_of n work (swept_of par n x).reached) (failed_of n work (swept_of par n x).reached)
unfolding proj_psd
projected par n x work b e =
    ap (λ (t : Bool). cond t (done_of n work (swept_of par n x).reached) (failed_of n work (swept_of par n x).reached)) e

-- the answer, the block and cone work are what a projection has
outcome : {fits : Bool} {ruled : Projected} {block work : List Float} {answer : Projection} {block' work' : List Float} (p : Projected) → fits ≡ true → ruled ≡ p → answer ≡ answer_of p → block' ≡ p.block → work' ≡ p.work → BlockOutcome fits ruled block work (Some answer) block' work'
outcome p fit is a b w = record { answered = rw (fit, is, a); block_left = rw (fit, is) b; work_left = rw (fit, is) w }

-- what the sizes say where they fit
pub record Fitting (par : SolverParam) (n : ℕ) (x work : List Float) : Type 0 where
  pub sized : IsPacked n x
  pub room : n + n * n ≤ length work
  pub few : sweeps_fit par ≡ true

pub fitting : (par : SolverParam) (n : ℕ) (x work : List Float) → block_fits par (PSD n) x work ≡ true → Fitting par n x work
fitting par n x work e =
    let p = both_true (leb (triangle n) limit && eqb (length x) (triangle n) && leb (n + n * n) (length work)) (sweeps_fit par) e in
    let q = both_true (leb (triangle n) limit && eqb (length x) (triangle n)) (leb (n + n * n) (length work)) p.0 in
    let r = both_true (leb (triangle n) limit) (eqb (length x) (triangle n)) q.0 in
    let few : triangle n ≤ limit = leb-true (triangle n) limit r.0 in
    record {
      sized = record { order = omega (arith, few, order_in_triangle n); stored = eqb-true (length x) (triangle n) r.1 };
      room = leb-true (n + n * n) (length work) q.1;
      few = p.1;
    }

-- what the answer tells
answer_done : (s : Swept) (r : ℕ) → Done r ≡ swept_answer s → (s.succeeded ≡ true) × (r ≡ s.reached.rotations)
answer_done s r e = go s.succeeded refl
  where
    go : (b : Bool) → s.succeeded ≡ b → (s.succeeded ≡ true) × (r ≡ s.reached.rotations)
    go true h = let e' : Done r ≡ Done s.reached.rotations = rw h at e in (h, cc)
    go false h = let e' : Done r ≡ Failed s.reached.rotations = rw h at e in let z : ◌≡◌ {A = ℕ} 0 1 = cc in absurd (omega arith)

answer_failed : (s : Swept) (r : ℕ) → Failed r ≡ swept_answer s → (s.succeeded ≡ false) × (r ≡ s.reached.rotations)
answer_failed s r e = go s.succeeded refl
  where
    go : (b : Bool) → s.succeeded ≡ b → (s.succeeded ≡ false) × (r ≡ s.reached.rotations)
    go false h = let e' : Failed r ≡ Failed s.reached.rotations = rw h at e in (h, cc)
    go true h = let e' : Failed r ≡ Done s.reached.rotations = rw h at e in let z : ◌≡◌ {A = ℕ} 0 1 = cc in absurd (omega arith)

module _ (par : SolverParam) (n : ℕ) (x work : List Float) {fits : Bool} {answer : Option Projection} {x₁ work₁ : List Float} (fit : fits ≡ true) (first : SweptBlock n (swept_of par n x) work answer x₁ work₁) where
  reached : Rotating
  reached = (swept_of par n x).reached

  pub failed : (rotations : ℕ) → answer ≡ Some (Failed rotations) → BlockOutcome fits (proj_psd par n x work) x work (Some (Failed rotations)) x₁ work₁
  failed rotations is =
      let e : Some (Failed rotations) ≡ Some (swept_answer (swept_of par n x)) = sym is ∙ first.answered in
      let a = answer_failed (swept_of par n x) rotations cc in
      outcome (failed_of n work (swept_of par n x).reached) fit (projected par n x work false a.0) (ap Failed a.1) first.block first.cone_work

  pub done : (rotations : ℕ) → answer ≡ Some (Done rotations) → (x' work' : List Float) → n + n * n ≤ length work → RebuiltBlock n x₁ work₁ x' work' → BlockOutcome fits (proj_psd par n x work) x work (Some (Done rotations)) x' work'
  unfolding reached
  done rotations is x' work' room second =
      let e : Some (Done rotations) ≡ Some (swept_answer (swept_of par n x)) = sym is ∙ first.answered in
      let a = answer_done (swept_of par n x) rotations cc in
      outcome (done_of n work reached) fit (projected par n x work true a.0) (ap Done a.1) block_is work_is
    where
      kept : drop n work₁ ≡ reached.vectors ++ drop (n + n * n) work
      kept =
          ap (λ (l : List Float). drop n l) (first.cone_work ∙ append_assoc (take n work) reached.vectors (drop (n + n * n) work))
          ∙ drop_at (take n work) (reached.vectors ++ drop (n + n * n) work) n (length-take-le n work (omega arith))

      vector : (p q : ℕ) → p < n → q < n → in_square n (drop n work₁) p q ≡ in_square n reached.vectors p q
      vector p q hp hq =
          ap (λ (l : List Float). in_square n l p q) kept
          ∙ in_square-place n (reached.vectors ++ drop (n + n * n) work) p q
          ∙ get_or-append reached.vectors (drop (n + n * n) work) nan (q * n + p) (omega (arith, first.stored, square_inside n p q hp hq))
          ∙ sym (in_square-place n reached.vectors p q)

      value : (p : ℕ) → value_of n x₁ p ≡ value_of n reached.matrix p
      value p = ap (λ (l : List Float). value_of n l p) first.block

      block_is : x' ≡ (done_of n work reached).block
      block_is =
          second.block
          ∙ ap (λ (l : List Float). diagonal_times (reciprocal √2) n l)
          (packed_same n _ _ (λ r c hr hc. rebuilt_same (value_of n x₁) (value_of n reached.matrix) (in_square n (drop n work₁)) (in_square n reached.vectors) n r c (λ p l. value p) (λ p l. vector r p (omega arith) l) (λ p l. vector c p hc l)))

      work_is : work' ≡ (done_of n work reached).work
      work_is =
          second.cone_work
          ∙ ap (λ (l : List Float). tabulate n (value_of n l) ++ drop n work₁) first.block
          ∙ ap (λ (l : List Float). tabulate n (value_of n reached.matrix) ++ l) kept
          ∙ sym (append_assoc (tabulate n (value_of n reached.matrix)) reached.vectors (drop (n + n * n) work))
