-- Vectors that are laid one after another at the front of work, and how an ending leaves it.
use Prim.Native.Nat.{ℕ, zero, suc, ◌+◌, ◌≤◌}
use native.Mathlib.Omega.{arith}
use mathlib.Core.Path.{◌≡◌, refl, ap, ◌∙◌, sym}
use mathlib.Core.Bool.{true, false}
use mathlib.Core.List.{List, [], ◌∷◌, ◌++◌, append_assoc}
use lib.Ieee.{Float}
use lib.ListN.{length, take, drop, length-drop}
use lib.Seq.{drop-drop}
use Rattle.rules.specs.Helpers.{one, reciprocal}
use Rattle.rules.specs.Arithmetic.{◌*ᶠ◌, ◌/ᶠ◌, at, each, each_to}
use Rattle.rules.specs.Vectors.{scaled}
use Rattle.rules.specs.declared.Ending.{Ending}
use Rattle.rules.specs.Problem.{length_x, work_length}
use Rattle.rules.specs.Run.{finished_x, is_scaled, is_cone_failure}
use Rattle.rules.proofs.Parts.{put, drop_rest}
use Rattle.settle.specs.Parts.{copied_to}
use Rattle.rules.specs.Prepare.{zeros}
use Rattle.settle.specs.Settle.{settle_fits, Settled, SettleOutcome}

pub put_copied : (a : ℕ) (v w : List Float) → put a (a + length v) w v ≡ copied_to a v w
unfolding copied_to
put_copied a v w = rw (drop_rest a (a + length v) w (omega arith), append_assoc)

-- x and y times 1/tau, or neither: the first places are multiplied in one pass
times_first : (by : Float) (m : ℕ) (x : List Float) → m ≤ length x → each_to (λ k v. by *ᶠ v) m x ≡ scaled by (take m x) ++ drop m x
unfolding scaled each each_to
times_first by zero x h = refl
times_first by (suc m) [] h = absurd (omega arith)
times_first by (suc m) (v ∷ x) h = ap (λ (l : List Float). by *ᶠ v ∷ l) (times_first by m x (omega arith))

times_next : (by : Float) (n m k : ℕ) (x : List Float) → k ≡ n + m → n ≤ length x → each_to (λ i v. by *ᶠ v) k x ≡ scaled by (take n x) ++ each_to (λ i v. by *ᶠ v) m (drop n x)
unfolding scaled each each_to
times_next by zero m k x e h =
    let same : k ≡ m = omega arith in
    rw same
times_next by (suc n) m k [] e h = absurd (omega arith)
times_next by (suc n) m zero (v ∷ x) e h = absurd (omega arith)
times_next by (suc n) m (suc k) (v ∷ x) e h = ap (λ (l : List Float). by *ᶠ v ∷ l) (times_next by n m k x (omega arith) (omega arith))

finished_is : (m n : ℕ) (x : List Float) → finished_x m n true x ≡ scaled (one /ᶠ at x (n + m + m)) (take n x) ++ scaled (one /ᶠ at x (n + m + m)) (take m (drop n x)) ++ drop (n + m) x
unfolding finished_x reciprocal
finished_is m n x = refl

pub finished_by : (m n : ℕ) (x x' : List Float) (by : Float) → by ≡ one /ᶠ at x (n + m + m) → length x ≡ length_x m n → x' ≡ each_to (λ k v. by *ᶠ v) (n + m) x → x' ≡ finished_x m n true x
finished_by m n x x' by e h is =
    let long : m ≤ length (drop n x) = rw (length-drop n x) (omega arith) in
    is ∙ times_next by n m (n + m) x refl (omega arith) ∙ rw (times_first by m (drop n x) long, drop-drop m n x, finished_is m n x, e, append_assoc)

module _ {m n : ℕ} {x y dp_tau dp_sigma rx tx work : List Float} where
  -- what the two ways of the code come to
  module _ {e : Ending} {cone x' work' cone' : List Float} where
    pub settled_failed : is_cone_failure e ≡ true → x' ≡ x → work' ≡ zeros (work_length m n) ++ drop (work_length m n) work → cone' ≡ zeros (length cone) → Settled m n x y dp_tau dp_sigma rx tx work e cone x' work' cone'
    settled_failed failed kept cleared cone_cleared = record { x_left = rw failed kept; work_is = rw failed cleared; cone_is = rw failed cone_cleared }

    pub settled_laid : is_cone_failure e ≡ false
        → length x' + length y + length dp_tau + length dp_sigma + length rx + length tx ≡ work_length m n
        → x' ≡ finished_x m n (is_scaled e) x
        → work' ≡ x' ++ y ++ dp_tau ++ dp_sigma ++ rx ++ tx ++ drop (length x' + length y + length dp_tau + length dp_sigma + length rx + length tx) work
        → cone' ≡ cone → Settled m n x y dp_tau dp_sigma rx tx work e cone x' work' cone'
    settled_laid held total finished laid same =
        let whole = rw total at laid in
        record { x_left = rw held finished; work_is = rw (held, ← finished) whole; cone_is = rw held same }

    pub settle_done : settle_fits m n x y dp_tau dp_sigma rx tx work ≡ true → Settled m n x y dp_tau dp_sigma rx tx work e cone x' work' cone' → SettleOutcome m n x y dp_tau dp_sigma rx tx work e cone true x' work' cone'
    settle_done h s = record { answered = sym h; x_left = rw h s.x_left; work_left = rw h s.work_is; cone_left = rw h s.cone_is }

  pub settle_refused : {e : Ending} {cone : List Float} → settle_fits m n x y dp_tau dp_sigma rx tx work ≡ false → SettleOutcome m n x y dp_tau dp_sigma rx tx work e cone false x work cone
  settle_refused h = record { answered = sym h; x_left = rw h; work_left = rw h; cone_left = rw h }
