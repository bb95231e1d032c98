-- Every routine keeps the lengths of the buffers that it writes: vectors, matrices, projections, passes over all blocks.
use Prim.Native.Nat.{ℕ, zero, suc, ◌+◌, ◌-◌, ◌*◌, ◌≤◌}
use native.Mathlib.Omega.{arith}
use mathlib.Core.Path.{◌≡◌, refl, ◌∙◌}
use mathlib.Core.Bool.{Bool, true, false, cond}
use mathlib.Core.List.{List, [], ◌∷◌}
use lib.Dec.{eqb}
use lib.Ieee.{Float, le, neg}
use lib.ListN.{length, take, drop, length-append, length-take, length-drop}
use lib.Seq.{length-take-le}
use Rattle.rules.specs.declared.MatType.{MatType}
use Rattle.rules.specs.declared.MatType.TheVariants.{General, SymPack}
use Rattle.rules.specs.declared.Cone.{Cone}
use Rattle.rules.specs.declared.Cone.TheVariants.{Zero, RPos, SOC, RotSOC, PSD}
use Rattle.rules.specs.declared.SolverParam.{SolverParam}
use Rattle.rules.specs.Arithmetic.{◌*ᶠ◌, +0}
use Rattle.rules.specs.Vectors.{norm_by, scaled, added, shifted, transformed_di}
use Rattle.rules.specs.Matrices.{triangle, is_empty, transformed_by, opped_by, trans_opped_by, absadded_cols, absadded_rows}
use Rattle.rules.specs.Blocks.{places, total_places}
use Rattle.rules.specs.Jacobi.{Rotating, Swept, is_rotated, rotated, pair_done, row_done, rows_done, sweep, sweeps, jacobi}
use Rattle.rules.specs.Projections.{Projected, √2, proj_zero, proj_r_pos, proj_soc, reflected, proj_rot_soc, diagonal_times, unit, proj_psd, proj_block, block_work}
use Rattle.rules.specs.Product.{Passed, proj_all, grouped, group_block, group_all, cone_work}
use Rattle.rules.specs.Prepare.{diagonal}
use Rattle.rules.proofs.Arithmetic.{each-length}
use Rattle.rules.proofs.Columns.{tabulate-length, packed-length, square-length}

-- ---- vectors

pub scaled-length : (alpha : Float) (x : List Float) → length (scaled alpha x) ≡ length x
unfolding scaled
scaled-length alpha x = simp each-length

pub added-length : (alpha : Float) (x y : List Float) → length (added alpha x y) ≡ length y
unfolding added
added-length alpha x y = simp each-length

pub shifted-length : (s : Float) (y : List Float) → length (shifted s y) ≡ length y
unfolding shifted
shifted-length s y = simp each-length

pub transformed_di-length : (alpha : Float) (mat x : List Float) (beta : Float) (y : List Float) → length (transformed_di alpha mat x beta y) ≡ length y
unfolding transformed_di
transformed_di-length alpha mat x beta y = simp each-length

pub diagonal-length : (eps : Float) (sums : List Float) → length (diagonal eps sums) ≡ length sums
unfolding diagonal
diagonal-length eps sums = simp each-length

-- ---- matrices

-- by any edition
pub transformed-length : (edition : ℕ) (alpha : Float) (entries : ℕ → ℕ → Float) (x : List Float) (beta : Float) (y : List Float) → length (transformed_by edition alpha entries x beta y) ≡ length y
unfolding transformed_by
transformed-length edition alpha entries x beta y = simp each-length

either_length : (b : Bool) (v w : List Float) (n : ℕ) → length v ≡ n → length w ≡ n → length (cond b v w) ≡ n
either_length true v w n h k = h
either_length false v w n h k = k

pub opped-length : (edition : ℕ) (t : MatType) (alpha : Float) (mat x : List Float) (beta : Float) (y : List Float) → length (opped_by edition t alpha mat x beta y) ≡ length y
unfolding opped_by
opped-length edition t alpha mat x beta y = either_length (is_empty t) _ _ (length y) (scaled-length beta y) (simp transformed-length)

pub trans_opped-length : (edition : ℕ) (t : MatType) (alpha : Float) (mat x : List Float) (beta : Float) (y : List Float) → length (trans_opped_by edition t alpha mat x beta y) ≡ length y
unfolding trans_opped_by
trans_opped-length edition t alpha mat x beta y = either_length (is_empty t) _ _ (length y) (scaled-length beta y) (simp transformed-length)

pub absadded_cols-length : (t : MatType) (mat y : List Float) → length (absadded_cols t mat y) ≡ length y
unfolding absadded_cols
absadded_cols-length (General rows cols) mat y = simp each-length
absadded_cols-length (SymPack rows) mat y = simp each-length

pub absadded_rows-length : (t : MatType) (mat y : List Float) → length (absadded_rows t mat y) ≡ length y
unfolding absadded_rows
absadded_rows-length (General rows cols) mat y = simp each-length
absadded_rows-length (SymPack rows) mat y = simp each-length

-- ---- grouping

grouped-length : (xs : List Float) → length (grouped xs) ≡ length xs
unfolding grouped
grouped-length xs = simp each-length

group_block-length : (b : Cone) (xs : List Float) → length (group_block b xs) ≡ length xs
group_block-length (Zero size) xs = refl
group_block-length (RPos size) xs = refl
group_block-length (SOC size) xs = grouped-length xs
group_block-length (RotSOC size) xs = grouped-length xs
group_block-length (PSD order) xs = grouped-length xs

pub group_all-length : (bs : List Cone) (xs : List Float) → length (group_all bs xs) ≡ length xs
unfolding group_all
group_all-length [] xs = refl
group_all-length (b ∷ bs) xs =
    length-append (group_block b (take (places b) xs)) (group_all bs (drop (places b) xs))
    ∙ omega (arith, group_block-length b (take (places b) xs), group_all-length bs (drop (places b) xs), length-take (places b) xs, length-drop (places b) xs)

-- ---- projections

proj_zero-length : (dual : Bool) (x : List Float) → length (proj_zero dual x) ≡ length x
unfolding proj_zero
proj_zero-length dual x = either_length dual x _ (length x) refl (scaled-length +0 x)

proj_r_pos-length : (x : List Float) → length (proj_r_pos x) ≡ length x
unfolding proj_r_pos
proj_r_pos-length x = simp each-length

proj_soc-length : (edition : ℕ) (x : List Float) → length (proj_soc edition x) ≡ length x
unfolding proj_soc
proj_soc-length edition [] = refl
proj_soc-length edition (s ∷ tail) =
    either_length (le (norm_by edition tail) (neg s)) _ _ (suc (length tail)) (simp scaled-length)
    (either_length (le (norm_by edition tail) s) _ _ (suc (length tail)) refl (simp scaled-length))

reflected-length : (x : List Float) → length (reflected x) ≡ length x
unfolding reflected
reflected-length [] = refl
reflected-length (r ∷ []) = refl
reflected-length (r ∷ s ∷ rest) = refl

proj_rot_soc-length : (edition : ℕ) (x : List Float) → length (proj_rot_soc edition x) ≡ length x
unfolding proj_rot_soc
proj_rot_soc-length edition [] = refl
proj_rot_soc-length edition (r ∷ []) = refl
proj_rot_soc-length edition (r ∷ s ∷ rest) =
    reflected-length (proj_soc edition (reflected (r ∷ s ∷ rest))) ∙ proj_soc-length edition (reflected (r ∷ s ∷ rest)) ∙ reflected-length (r ∷ s ∷ rest)

-- ---- Jacobi's method

pub record Sized (n : ℕ) (m : Rotating) : Type 0 where
  pub matrix : length m.matrix ≡ triangle n
  pub vectors : length m.vectors ≡ n * n

rotated-sized : (n i j : ℕ) (m : Rotating) → Sized n (rotated n i j m)
unfolding rotated
rotated-sized n i j m = record { matrix = packed-length n _; vectors = square-length n _ }

pair-sized : (n : ℕ) (tol : Float) (i j : ℕ) (m : Rotating) → Sized n m → Sized n (pair_done n tol i j m)
unfolding pair_done
pair-sized n tol i j m h = go (is_rotated n tol i j m.matrix)
  where
    go : (b : Bool) → Sized n (cond b (rotated n i j m) m)
    go true = rotated-sized n i j m
    go false = h

row_sized : (n : ℕ) (tol : Float) (i k : ℕ) (m : Rotating) → Sized n m → Sized n (row_done n tol i k m)
unfolding row_done
row_sized n tol i zero m h = h
row_sized n tol i (suc k) m h = pair-sized n tol i (i + 1 + k) (row_done n tol i k m) (row_sized n tol i k m h)

pub rows_sized : (n : ℕ) (tol : Float) (k : ℕ) (m : Rotating) → Sized n m → Sized n (rows_done n tol k m)
unfolding rows_done
rows_sized n tol zero m h = h
rows_sized n tol (suc i) m h = row_sized n tol i (n - (i + 1)) (rows_done n tol i m) (rows_sized n tol i m h)

pub sweeps-sized : (n : ℕ) (tol : Float) (most : ℕ) (m : Rotating) → Sized n m → Sized n (sweeps n tol most m).reached
unfolding sweeps
sweeps-sized n tol zero m h = h
sweeps-sized n tol (suc left) m h = go (eqb (sweep n tol m).rotations m.rotations) (rows_sized n tol n m h) (sweeps-sized n tol left (sweep n tol m) (rows_sized n tol n m h))
  where
    go : (b : Bool) → Sized n (sweep n tol m) → Sized n (sweeps n tol left (sweep n tol m)).reached → Sized n (cond b (record { reached = sweep n tol m; succeeded = true }) (sweeps n tol left (sweep n tol m))).reached
    go true u v = u
    go false u v = v

pub diagonal_times-length : (by : Float) (n : ℕ) (x : List Float) → length (diagonal_times by n x) ≡ triangle n
unfolding diagonal_times
diagonal_times-length by n x = packed-length n _

pub unit-length : (n : ℕ) → length (unit n) ≡ n * n
unfolding unit
unit-length n = square-length n _

-- Jacobi's method on a block
abbrev pub swept : SolverParam → ℕ → List Float → Swept
swept par n x =
    jacobi par n (diagonal_times √2 n x) (unit n)

swept-sized : (par : SolverParam) (n : ℕ) (x : List Float) → Sized n (swept par n x).reached
swept-sized par n x =
    sweeps-sized n (par.eps_zero *ᶠ par.eps_zero) par.sweep_limit (record { matrix = diagonal_times √2 n x; vectors = unit n; rotations = 0 })
    (record { matrix = diagonal_times-length √2 n x; vectors = unit-length n })

-- what a block's projection keeps
pub record BlockKeeps (b : Cone) (w : List Float) (p : Projected) : Type 0 where
  pub block : length p.block ≡ places b
  pub work : block_work b ≤ length w → length p.work ≡ length w

psd_keeps : (par : SolverParam) (n : ℕ) (x work : List Float) → BlockKeeps (PSD n) work (proj_psd par n x work)
unfolding proj_psd
psd_keeps par n x work =
    go (swept par n x).succeeded refl
  where
    go : (t : Bool) → (swept par n x).succeeded ≡ t → BlockKeeps (PSD n) work (proj_psd par n x work)
    go true e =
        rw e
        (record {
          block = simp diagonal_times-length;
          work = λ h. simp (length-append, length-drop, tabulate-length) (omega (arith, (swept-sized par n x).vectors));
        })
    go false e =
        rw e
        (record {
          block = (swept-sized par n x).matrix;
          work = λ h. simp (length-append, length-drop, length-take) (omega (arith, (swept-sized par n x).vectors));
        })

pub block_keeps : (par : SolverParam) (dual : Bool) (b : Cone) (x work : List Float) → length x ≡ places b → BlockKeeps b work (proj_block par dual b x work)
unfolding proj_block
block_keeps par dual (Zero size) x work h = record { block = proj_zero-length dual x ∙ h; work = λ k. refl }
block_keeps par dual (RPos size) x work h = record { block = proj_r_pos-length x ∙ h; work = λ k. refl }
block_keeps par dual (SOC size) x work h = record { block = proj_soc-length par.«edition» x ∙ h; work = λ k. refl }
block_keeps par dual (RotSOC size) x work h = record { block = proj_rot_soc-length par.«edition» x ∙ h; work = λ k. refl }
block_keeps par dual (PSD order) x work h = psd_keeps par order x work

-- ---- a pass over all blocks

pub record PassKeeps (bs : List Cone) (x w : List Float) (q : Passed) : Type 0 where
  pub cone : length q.cone ≡ length x
  pub work : cone_work bs ≤ length w → length q.work ≡ length w

pub pass_keeps : (par : SolverParam) (dual : Bool) (bs : List Cone) (x work : List Float) → total_places bs ≤ length x → PassKeeps bs x work (proj_all par dual bs x work)
unfolding proj_all total_places cone_work
pass_keeps par dual [] x work h = record { cone = refl; work = λ k. refl }
pass_keeps par dual (b ∷ bs) x work h =
    go (proj_block par dual b (take (places b) x) work).succeeded refl
    (block_keeps par dual b (take (places b) x) work (length-take-le (places b) x (omega arith)))
    (pass_keeps par dual bs (drop (places b) x) (proj_block par dual b (take (places b) x) work).work (omega (arith, length-drop (places b) x)))
  where
    go : (t : Bool) → (proj_block par dual b (take (places b) x) work).succeeded ≡ t → BlockKeeps b work (proj_block par dual b (take (places b) x) work) → PassKeeps bs (drop (places b) x) (proj_block par dual b (take (places b) x) work).work (proj_all par dual bs (drop (places b) x) (proj_block par dual b (take (places b) x) work).work) → PassKeeps (b ∷ bs) x work (proj_all par dual (b ∷ bs) x work)
    go true e u v =
        rw e
        (record {
          cone = simp length-append (omega (arith, length-drop (places b) x));
          work = λ k. v.work (omega (arith, u.work (omega arith))) ∙ u.work (omega arith);
        })
    go false e u v =
        rw e
        (record {
          cone = simp (length-append, length-drop) (omega arith);
          work = λ k. u.work (omega arith);
        })
