-- Vectors that come back from work, by what the test of the lengths says.
use Prim.Native.Nat.{ℕ, ◌+◌}
use mathlib.Core.Path.{◌≡◌, refl, sym, ◌∙◌}
use mathlib.Core.Bool.{Bool, true, false, not}
use borrow.Author.Tests.{not-true, not-false}
use mathlib.Core.List.{List}
use lib.Ieee.{Float}
use lib.ListN.{length}
use Rattle.rules.specs.Step.{part}
use Rattle.settle.specs.Settle.{settle_lengths_fit, settle_fits, Fitting}
use Rattle.settle.proofs.Settled.{fits_fitting}
use Rattle.take_up.specs.TakeUp.{TakenUp, TakeUpOutcome}

fits_are : (m n : ℕ) (x y dp_tau dp_sigma rx tx work : List Float)
    → settle_fits m n x y dp_tau dp_sigma rx tx work
    ≡ settle_lengths_fit m n (length x) (length y) (length dp_tau) (length dp_sigma) (length rx) (length tx) (length work)
unfolding settle_fits
fits_are m n x y dp_tau dp_sigma rx tx work = refl

module _ {m n : ℕ} {x y dp_tau dp_sigma rx tx work : List Float} where
  -- what the test of the lengths says
  module _ {r : Bool} (answered : r ≡ settle_lengths_fit m n (length x) (length y) (length dp_tau) (length dp_sigma) (length rx) (length tx) (length work)) where
    pub all_fitting : not r ≡ false → Fitting m n x y dp_tau dp_sigma rx tx work
    all_fitting left = fits_fitting (fits_are m n x y dp_tau dp_sigma rx tx work ∙ sym answered ∙ not-false r left)

    pub take_up_refused : not r ≡ true → TakeUpOutcome m n x y dp_tau dp_sigma rx tx work false x y dp_tau dp_sigma rx tx
    take_up_refused taken =
        let h = fits_are m n x y dp_tau dp_sigma rx tx work ∙ sym answered ∙ not-true r taken in
        record { answered = sym h; x_left = rw h; y_left = rw h; tau_left = rw h; sigma_left = rw h; rx_left = rw h; tx_left = rw h }

    pub take_up_done : {x' y' dp_tau' dp_sigma' rx' tx' : List Float} → not r ≡ false
        → TakenUp m n work x' y' dp_tau' dp_sigma' rx' tx'
        → TakeUpOutcome m n x y dp_tau dp_sigma rx tx work true x' y' dp_tau' dp_sigma' rx' tx'
    take_up_done left t =
        let h = fits_are m n x y dp_tau dp_sigma rx tx work ∙ sym answered ∙ not-false r left in
        record {
          answered = sym h;
          x_left = rw h t.x_is;
          y_left = rw h t.y_is;
          tau_left = rw h t.tau_is;
          sigma_left = rw h t.sigma_is;
          rx_left = rw h t.rx_is;
          tx_left = rw h t.tx_is;
        }

  module _ {x' y' dp_tau' dp_sigma' rx' tx' : List Float} where
    -- what the code says of each, by the lengths that the vectors have
    pub parts_taken : Fitting m n x y dp_tau dp_sigma rx tx work
        → x' ≡ part 0 (length x) work
        → y' ≡ part (length x) (length y) work
        → dp_tau' ≡ part (length x + length y) (length dp_tau) work
        → dp_sigma' ≡ part (length x + length y + length dp_tau) (length dp_sigma) work
        → rx' ≡ part (length x + length y + length dp_tau + length dp_sigma) (length rx) work
        → tx' ≡ part (length x + length y + length dp_tau + length dp_sigma + length rx) (length tx) work
        → TakenUp m n work x' y' dp_tau' dp_sigma' rx' tx'
    parts_taken f ex ey et es er ev =
        record {
          x_is = rw f.x_long at ex;
          y_is = rw (f.x_long, f.y_long) at ey;
          tau_is = rw (f.x_long, f.y_long, f.tau_long) at et;
          sigma_is = rw (f.x_long, f.y_long, f.tau_long, f.sigma_long) at es;
          rx_is = rw (f.x_long, f.y_long, f.tau_long, f.sigma_long, f.rx_long) at er;
          tx_is = rw (f.x_long, f.y_long, f.tau_long, f.sigma_long, f.rx_long, f.tx_long) at ev;
        }
