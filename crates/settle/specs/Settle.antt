-- Document 01, "How a run ends": x and y in work, and where the other vectors of a run come to stand in it.
use Rattle.std.specs.Prelude.{ℕ, ◌≤◌, ◌≡◌, Bool, cond, ◌&&◌, List, ◌++◌, leb, eqb, Float, length, drop}
use Rattle.rules.specs.declared.Ending.{Ending}
use Rattle.rules.specs.Limits.{limit}
use Rattle.rules.specs.Problem.{length_x, length_y, work_length}
use Rattle.rules.specs.Prepare.{zeros}
use Rattle.rules.specs.Run.{is_scaled, is_cone_failure, finished_x}

-- the sizes are within the limits, and the vectors have the lengths that they say
abbrev pub settle_lengths_fit : ℕ → ℕ → ℕ → ℕ → ℕ → ℕ → ℕ → ℕ → ℕ → Bool
settle_lengths_fit m n x y dp_tau dp_sigma rx tx work =
    leb m limit && leb n limit && eqb x (length_x m n) && eqb y (length_y m n) && eqb dp_tau (length_x m n) && eqb dp_sigma (length_y m n)
    && eqb rx (length_x m n) && eqb tx (length_x m n) && leb (work_length m n) work

module _ (m n : ℕ) (x y dp_tau dp_sigma rx tx work : List Float) where
  unfoldable pub settle_fits : Bool
  settle_fits = settle_lengths_fit m n (length x) (length y) (length dp_tau) (length dp_sigma) (length rx) (length tx) (length work)

  pub record Fitting : Type 0 where
    pub m_within : m ≤ limit
    pub n_within : n ≤ limit
    pub x_long : length x ≡ length_x m n
    pub y_long : length y ≡ length_y m n
    pub tau_long : length dp_tau ≡ length_x m n
    pub sigma_long : length dp_sigma ≡ length_y m n
    pub rx_long : length rx ≡ length_x m n
    pub tx_long : length tx ≡ length_x m n
    pub work_long : work_length m n ≤ length work

  -- what each buffer becomes: after a cone's failure x is kept, and the required part of work and all of cone work are +0
  abbrev pub settled_x : Ending → List Float
  settled_x e = cond (is_cone_failure e) x (finished_x m n (is_scaled e) x)

  abbrev pub settled_work : Ending → List Float
  settled_work e =
      cond (is_cone_failure e) (zeros (work_length m n)) (finished_x m n (is_scaled e) x ++ y ++ dp_tau ++ dp_sigma ++ rx ++ tx)
      ++ drop (work_length m n) work

  abbrev pub settled_cone : Ending → List Float → List Float
  settled_cone e cone = cond (is_cone_failure e) (zeros (length cone)) cone

  pub record Settled (e : Ending) (cone x' work' cone' : List Float) : Type 0 where
    pub x_left : x' ≡ settled_x e
    pub work_is : work' ≡ settled_work e
    pub cone_is : cone' ≡ settled_cone e cone

  -- the complete outcome: it answers whether all fits, and where it does not nothing is changed
  pub record SettleOutcome (e : Ending) (cone : List Float) (answer : Bool) (x' work' cone' : List Float) : Type 0 where
    pub answered : answer ≡ settle_fits
    pub x_left : x' ≡ cond settle_fits (settled_x e) x
    pub work_left : work' ≡ cond settle_fits (settled_work e) work
    pub cone_left : cone' ≡ cond settle_fits (settled_cone e cone) cone
