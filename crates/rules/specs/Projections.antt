-- Document 01, "Port order", 4 and 5: the projection of each kind of block, cone_*.rs. A block of size 0 of any kind has nothing to do.
use Rattle.std.specs.Prelude.{ℕ, zero, suc, ◌+◌, ◌*◌, ◌≡◌, Bool, true, false, cond, ◌&&◌, List, [], ◌∷◌, ◌++◌, leb, eqb, Float, length, take, drop, Option, Some, None}
use Rattle.std.specs.Float.{binary64}
use Rattle.std.specs.Float.Ieee.{lt, le, neg, add, sub, mul, div}
use Rattle.rules.specs.declared.Cone.{Cone}
use Rattle.rules.specs.declared.Cone.TheVariants.{Zero, RPos, SOC, RotSOC, PSD}
use Rattle.rules.specs.declared.Projection.{Projection}
use Rattle.rules.specs.declared.Projection.TheVariants.{Done, Failed}
use Rattle.rules.specs.declared.SolverParam.{SolverParam}
use Rattle.rules.specs.Limits.{limit}
use Rattle.rules.specs.Helpers.{larger, one, reciprocal}
use Rattle.rules.specs.Root.{root}
use Rattle.rules.specs.Arithmetic.{◌+ᶠ◌, ◌-ᶠ◌, ◌*ᶠ◌, ◌/ᶠ◌, +0, each, tabulate, by_columns}
use Rattle.rules.specs.Vectors.{norm_by, scaled}
use Rattle.rules.specs.Matrices.{entry}
use Rattle.rules.specs.Blocks.{places}
use Rattle.rules.specs.Jacobi.{two, packed, square, in_packed, in_square, sweeps, jacobi}
pub use Rattle.rules.specs.Jacobi.{sweeps_fit}

-- "Zero: the dual is untouched, the primal is multiplied by 0."
unfoldable pub proj_zero : Bool → List Float → List Float
unfolding scaled
proj_zero dual x = cond dual x (scaled +0 x)

-- "Nonnegative: the larger of each place and 0."
unfoldable pub proj_r_pos : List Float → List Float
unfolding each larger
proj_r_pos x = each (λ k v. larger v +0) x

-- By edition, as its norm is. "Second-order, with norm v and head s: v ≤ −s multiplies the tail by 0 and sets the head to +0, else v ≤ s leaves it, else tail times (1 + s/v)/2 and head (v + s)/2."
unfoldable pub proj_soc : ℕ → List Float → List Float
unfolding norm_by scaled le neg one add div
proj_soc edition [] = []
proj_soc edition (s ∷ tail) =
    let v = norm_by edition tail in
    cond (le v (neg s)) (+0 ∷ scaled +0 tail)
    (cond (le v s) (s ∷ tail)
    ((v +ᶠ s) /ᶠ two ∷ scaled ((one +ᶠ s /ᶠ v) /ᶠ two) tail))

abbrev pub √2 : Float
√2 = root binary64 two

-- "(r+s)/√2 and (r−s)/√2"
unfoldable pub reflected : List Float → List Float
unfolding root one add sub div
reflected [] = []
reflected (r ∷ []) = r ∷ []
reflected (r ∷ s ∷ rest) = (r +ᶠ s) /ᶠ √2 ∷ (r -ᶠ s) /ᶠ √2 ∷ rest

-- "Rotated: size 1 is the larger of it and 0; otherwise (r+s)/√2 and (r−s)/√2 before and after."
unfoldable pub proj_rot_soc : ℕ → List Float → List Float
unfolding larger proj_soc reflected
proj_rot_soc edition [] = []
proj_rot_soc edition (r ∷ []) = larger r +0 ∷ []
proj_rot_soc edition (r ∷ s ∷ rest) = reflected (proj_soc edition (reflected (r ∷ s ∷ rest)))

-- ---- semidefinite

-- the diagonal times a number
unfoldable pub diagonal_times : Float → ℕ → List Float → List Float
unfolding by_columns entry mul
diagonal_times by n x = packed n (λ r c. cond (eqb r c) (in_packed n x r c *ᶠ by) (in_packed n x r c))

unfoldable pub unit : ℕ → List Float
unfolding by_columns one
unit n = square n (λ r c. cond (eqb r c) one +0)

-- "eigenvalues above 0 build the matrix anew": what the first k of them come to in row r and column c. The sum starts at +0 and goes by rising index,
-- and each term stands before the sum so far.
unfoldable pub rebuilt_entry : (ℕ → Float) → (ℕ → ℕ → Float) → ℕ → ℕ → ℕ → Float
unfolding lt add mul
rebuilt_entry values z zero r c = +0
rebuilt_entry values z (suc k) r c =
    let before = rebuilt_entry values z k r c in
    cond (lt +0 (values k)) (values k *ᶠ z r k *ᶠ z c k +ᶠ before) before

-- What a block's projection leaves: the block's places, cone work, the rotations made, and whether it succeeded.
pub record Projected : Type 0 where
  pub block : List Float
  pub work : List Float
  pub rotations : ℕ
  pub succeeded : Bool

-- "Diagonal times √2; Jacobi sweeps over i < j; eigenvalues above 0 build the matrix anew; diagonal times 1/√2. .. tol = eps_zero·eps_zero.
-- A block of order d uses the first d places of cone work for eigenvalues and the next d·d for vectors, by columns."
-- Where the sweeps fail, the block and the vectors stay as the last sweep left them, and the places for eigenvalues as they were.
unfoldable pub proj_psd : SolverParam → ℕ → List Float → List Float → Projected
unfolding diagonal_times unit sweeps rebuilt_entry by_columns tabulate entry reciprocal mul
proj_psd par n x work =
    let swept = jacobi par n (diagonal_times √2 n x) (unit n) in
    let m = swept.reached in
    let value : ℕ → Float = λ i. in_packed n m.matrix i i in
    let rebuilt = packed n (rebuilt_entry value (in_square n m.vectors) n) in
    let rest = drop (n + n * n) work in
    cond swept.succeeded
    (record { block = diagonal_times (reciprocal √2) n rebuilt; work = tabulate n value ++ m.vectors ++ rest; rotations = m.rotations; succeeded = true })
    (record { block = m.matrix; work = take n work ++ m.vectors ++ rest; rotations = m.rotations; succeeded = false })

-- ---- any block

abbrev pub plain : List Float → List Float → Projected
plain block work = record { block = block; work = work; rotations = 0; succeeded = true }

unfoldable pub proj_block : SolverParam → Bool → Cone → List Float → List Float → Projected
unfolding proj_zero proj_r_pos proj_soc proj_rot_soc proj_psd
proj_block par dual (Zero size) x work = plain (proj_zero dual x) work
proj_block par dual (RPos size) x work = plain (proj_r_pos x) work
proj_block par dual (SOC size) x work = plain (proj_soc par.«edition» x) work
proj_block par dual (RotSOC size) x work = plain (proj_rot_soc par.«edition» x) work
proj_block par dual (PSD order) x work = proj_psd par order x work

-- ---- what fits, and the complete outcome

-- how much cone work a block needs
abbrev pub block_work : Cone → ℕ
block_work (Zero size) = 0
block_work (RPos size) = 0
block_work (SOC size) = 0
block_work (RotSOC size) = 0
block_work (PSD order) = order + order * order

-- a block within the limit, for that many places and that much cone work, and a sweep limit within its range
abbrev pub sizes_fit : SolverParam → Cone → ℕ → ℕ → Bool
sizes_fit par b size work = leb (places b) limit && eqb size (places b) && leb (block_work b) work && sweeps_fit par

abbrev pub block_fits : SolverParam → Cone → List Float → List Float → Bool
block_fits par b x work = sizes_fit par b (length x) (length work)

abbrev pub answer_of : Projected → Projection
answer_of p = cond p.succeeded (Done p.rotations) (Failed p.rotations)

-- It answers by the rule where the sizes fit, and no where they don't; the block and cone work hold what the rule says, place by place, or what they held before.
pub record BlockOutcome (fits : Bool) (ruled : Projected) (block work : List Float) (answer : Option Projection) (block' work' : List Float) : Type 0 where
  pub answered : answer ≡ cond fits (Some (answer_of ruled)) None
  pub block_left : block' ≡ cond fits ruled.block block
  pub work_left : work' ≡ cond fits ruled.work work
