-- The three parts of a row of a packed matrix, one after the other, are the whole row.
use Prim.Native.Nat.{ℕ, ◌+◌, ◌-◌, ◌≤◌}
use native.Mathlib.Omega.{arith}
use mathlib.Core.Path.{◌≡◌, refl, ap, ◌∙◌}
use mathlib.Core.Bool.{Bool}
use mathlib.Core.List.{List}
use lib.Ieee.{Float}
use lib.ListN.{length, replicate, length-replicate}
use Rattle.rules.specs.declared.MatType.TheVariants.{SymPack}
use Rattle.rules.specs.declared.Rows.{Rows}
use Rattle.rules.specs.Limits.{limit}
use Rattle.rules.specs.Arithmetic.{◌+ᶠ◌, ◌*ᶠ◌, +0, at, sum_from, each}
use Rattle.rules.specs.Outcome.{Outcome}
use Rattle.rules.specs.Vectors.{same_length}
use Rattle.rules.specs.Matrices.{triangle, Stored, place, entry, product}
use Rattle.rules.proofs.Arithmetic.{sum_same, each_same, each-length}
use Rattle.rules.proofs.Slices.{sum_on}
use Rattle.side_by_side.proofs.SideBySide.{each_after, sums_put}
use Rattle.packed_transform.specs.Lines.{term, row_on}

-- what each part asks, of as many rows as there are sums
pub part_asked : {n : Rows} {mat : List Float} {w : ℕ} (sums x : List Float) (r : ℕ) → Stored (SymPack n) mat → length x ≡ n.0 → r + w ≤ n.0 → length sums ≡ w
    → record { mat_len : length mat ≡ triangle (length x); x_len_bound : length x ≤ limit; sums_in_bounds : r + length sums ≤ length x }
part_asked sums x r s wide rows l = record { mat_len = rw wide s.all; x_len_bound = rw wide s.cols; sums_in_bounds = rw (l, wide) rows }

module _ (mat x : List Float) (r : ℕ) where
  parts_join : (sum_so_far : Float) (a b : ℕ) → a ≤ b → row_on (row_on sum_so_far mat x r 0 a) mat x r a b ≡ row_on sum_so_far mat x r 0 b
  parts_join sum_so_far a b h =
      let all : a - 0 + (b - a) ≡ b - 0 = omega arith in
      sum_on sum_so_far (λ j. term mat x r (0 + j)) (λ j. term mat x r (a + j)) (λ j. term mat x r (0 + j)) (a - 0) (b - a) (λ i l. refl) (λ j l. ap (term mat x r) (there j))
      ∙ ap (λ (k : ℕ). sum_from sum_so_far k (λ j. term mat x r (0 + j))) all
    where
      there : (j : ℕ) → a + j ≡ 0 + (a - 0 + j)
      there j = omega arith

  whole : (n : Rows) → row_on +0 mat x r 0 (length x) ≡ product (entry (SymPack n) mat) x r
  unfolding entry place
  whole n =
      let all : length x - 0 ≡ length x = omega arith in
      rw all (sum_same +0 _ _ (length x) (λ j l. ap (term mat x r) (there j)))
    where
      there : (j : ℕ) → 0 + j ≡ j
      there j = omega arith

  three_join : (n : Rows) (a b : ℕ) → a ≤ b → b ≤ length x → row_on (row_on (row_on +0 mat x r 0 a) mat x r a b) mat x r b (length x) ≡ product (entry (SymPack n) mat) x r
  three_join n a b h l = rw (parts_join +0 a b h, parts_join +0 b (length x) l) (whole n)

-- As many sums as there are places of y, +0 each, are lent to each part in turn, and are put into y: then y has the products of the rows.
pub rows_put : (n : Rows) (mat x : List Float) (r w : ℕ) (alpha beta : Float) (y : List Float) {s s₂ s₃ : List Float} {done : Bool} {y' : List Float} → length x ≡ n.0 → length y ≡ w → r + w ≤ n.0
    → s ≡ each (λ k so_far. row_on so_far mat x (r + k) 0 r) (replicate w +0)
    → s₂ ≡ each (λ k so_far. row_on so_far mat x (r + k) r (r + length s)) s
    → s₃ ≡ each (λ k so_far. row_on so_far mat x (r + k) (r + length s₂) (length x)) s₂
    → Outcome (same_length s₃ y) (each (λ k v. alpha *ᶠ at s₃ k +ᶠ beta *ᶠ v) y) y done y'
    → y' ≡ each (λ k v. alpha *ᶠ product (entry (SymPack n) mat) x (r + k) +ᶠ beta *ᶠ v) y
rows_put n mat x r w alpha beta y {s} {s₂} {s₃} wide high rows left across right put_all_lem =
    let l : length s ≡ w = ap length left ∙ each-length _ _ ∙ length-replicate w +0 in
    let l₂ : length s₂ ≡ w = ap length across ∙ each-length _ _ ∙ l in
    let all : s₃ ≡ each (λ k so_far. row_on so_far mat x (r + k) (r + length s₂) (length x)) (each (λ k so_far. row_on so_far mat x (r + k) r (r + length s)) (each (λ k so_far. row_on so_far mat x (r + k) 0 r) (replicate w +0)))
    = right ∙ ap (each (λ k so_far. row_on so_far mat x (r + k) (r + length s₂) (length x))) (across ∙ ap (each (λ k so_far. row_on so_far mat x (r + k) r (r + length s))) left) in
    sums_put alpha beta _ w y s₃ high (all ∙ ap (each _) (each_after _ _ _) ∙ each_after _ _ _) put_all_lem
    ∙ rw (l, l₂) (each_same _ _ y (λ k h. rw (three_join mat x (r + k) n r (r + w) (omega arith) (rw wide rows))))
