-- The rows of a packed matrix that stand at the front of an array of any size: what each part asks, and that y has the products.
use Prim.Native.Nat.{ℕ, ◌+◌, ◌-◌, ◌≤◌}
use native.Mathlib.Omega.{arith}
use mathlib.Core.Path.{◌≡◌, refl, ap, ◌∙◌}
use mathlib.Core.Bool.{Bool}
use mathlib.Core.List.{List}
use lib.Ieee.{Float}
use lib.ListN.{length, take, drop, replicate}
use Rattle.rules.specs.declared.MatType.TheVariants.{SymPack}
use Rattle.rules.specs.declared.Rows.{Rows}
use Rattle.rules.specs.Limits.{limit}
use Rattle.rules.specs.Arithmetic.{◌+ᶠ◌, ◌*ᶠ◌, +0, at, sum_from, each}
use Rattle.rules.specs.Outcome.{Outcome}
use Rattle.rules.specs.Vectors.{same_length}
use Rattle.rules.specs.Matrices.{triangle, Stored, place, entry, product}
use Rattle.rules.proofs.Arithmetic.{sum_same, each_same}
use Rattle.rules.proofs.Parts.{put}
use Rattle.rules.proofs.Slices.{sum_on}
use Rattle.side_by_side.proofs.SideBySide.{each_after, Lanes, lanes_start, lanes_count, lanes_on, sums_put}
use Rattle.packed_transform.specs.Lines.{term, row_on}

-- what each part asks, of as many rows as there are sums
pub part_asked : {n : Rows} {mat : List Float} {size w : ℕ} {array sums : List Float} (x : List Float) (r : ℕ) → Stored (SymPack n) mat → length x ≡ n.0 → r + w ≤ n.0 → Lanes size w array sums
    → record { mat_len : length mat ≡ triangle (length x); x_len_bound : length x ≤ limit; sums_in_bounds : r + length (take (w - 0) (drop 0 array)) ≤ length x }
part_asked {n} {mat} {size} {w} x r s wide rows l = record { mat_len = rw wide s.all; x_len_bound = rw wide s.cols; sums_in_bounds = rw (lanes_count l, wide) rows }

module _ (mat x : List Float) (r : ℕ) where
  parts_join : (sum_so_far : Float) (a b : ℕ) → a ≤ b → row_on (row_on sum_so_far mat x r 0 a) mat x r a b ≡ row_on sum_so_far mat x r 0 b
  parts_join sum_so_far a b h =
      let all : a - 0 + (b - a) ≡ b - 0 = omega arith in
      sum_on sum_so_far (λ j. term mat x r (0 + j)) (λ j. term mat x r (a + j)) (λ j. term mat x r (0 + j)) (a - 0) (b - a) (λ i l. refl) (λ j l. ap (term mat x r) (there j))
      ∙ ap (λ (k : ℕ). sum_from sum_so_far k (λ j. term mat x r (0 + j))) all
    where
      there : (j : ℕ) → a + j ≡ 0 + (a - 0 + j)
      there j = omega arith

  whole : (n : Rows) → row_on +0 mat x r 0 (length x) ≡ product (entry (SymPack n) mat) x r
  unfolding entry place
  whole n =
      let all : length x - 0 ≡ length x = omega arith in
      rw all (sum_same +0 _ _ (length x) (λ j l. ap (term mat x r) (there j)))
    where
      there : (j : ℕ) → 0 + j ≡ j
      there j = omega arith

  three_join : (n : Rows) (a b : ℕ) → a ≤ b → b ≤ length x → row_on (row_on (row_on +0 mat x r 0 a) mat x r a b) mat x r b (length x) ≡ product (entry (SymPack n) mat) x r
  three_join n a b h l = rw (parts_join +0 a b h, parts_join +0 b (length x) l) (whole n)

-- As many sums as there are places of y stand at the front of an array of +0, are lent to each part in turn, and are put into y: then y has the products of the rows.
module _ (n : Rows) (mat x : List Float) (r size w : ℕ) (few : w ≤ size) (back back₂ back₃ : List Float) where
  abbrev lent : List Float → List Float
  lent array = take (w - 0) (drop 0 array)

  abbrev array : List Float
  array = put 0 w (replicate size +0) back

  abbrev array₂ : List Float
  array₂ = put 0 w array back₂

  abbrev array₃ : List Float
  array₃ = put 0 w array₂ back₃

  pub rows_put : (alpha beta : Float) (y : List Float) {done : Bool} {y' : List Float} → length x ≡ n.0 → length y ≡ w → r + w ≤ n.0
      → back ≡ each (λ k so_far. row_on so_far mat x (r + k) 0 r) (lent (replicate size +0))
      → back₂ ≡ each (λ k so_far. row_on so_far mat x (r + k) r (r + length (lent array))) (lent array)
      → back₃ ≡ each (λ k so_far. row_on so_far mat x (r + k) (r + length (lent array₂)) (length x)) (lent array₂)
      → Outcome (same_length (lent array₃) y) (each (λ k v. alpha *ᶠ at (lent array₃) k +ᶠ beta *ᶠ v) y) y done y'
      → y' ≡ each (λ k v. alpha *ᶠ product (entry (SymPack n) mat) x (r + k) +ᶠ beta *ᶠ v) y
  rows_put alpha beta y wide high rows left across right put_all_lem =
      let l = lanes_on (lanes_start size w few) _ back left in
      let l₂ = lanes_on l _ back₂ across in
      let l₃ = lanes_on l₂ _ back₃ right in
      sums_put alpha beta _ w y (lent array₃) high (l₃.are ∙ ap (each _) (each_after _ _ _) ∙ each_after _ _ _) put_all_lem
      ∙ rw (lanes_count l, lanes_count l₂) (each_same _ _ y (λ k h. rw (three_join mat x (r + k) n r (r + w) (omega arith) (rw wide rows))))
