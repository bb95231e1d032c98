-- Laws of vectors that come back from work.
use Prim.Native.Nat.{ℕ}
use mathlib.Core.Path.{◌≡◌, sym, ◌∙◌}
use mathlib.Core.Bool.{Bool}
use mathlib.Core.List.{List}
use lib.Ieee.{Float}
use Rattle.settle.specs.Settle.{Fitting}
use Rattle.settle.proofs.Settled.{fitting_fits}
use Rattle.take_up.specs.TakeUp.{TakenUp, TakeUpOutcome}

module _ {m n : ℕ} {x y dp_tau dp_sigma rx tx work : List Float} where
  module _ {x' y' dp_tau' dp_sigma' rx' tx' : List Float} where
    -- for a caller whose lengths fit
    pub taken_up_if_fitting : {answer : Bool} → Fitting m n x y dp_tau dp_sigma rx tx work
        → TakeUpOutcome m n x y dp_tau dp_sigma rx tx work answer x' y' dp_tau' dp_sigma' rx' tx'
        → TakenUp m n work x' y' dp_tau' dp_sigma' rx' tx'
    taken_up_if_fitting f o =
        let h = fitting_fits f in
        record {
          x_is = rw h at o.x_left;
          y_is = rw h at o.y_left;
          tau_is = rw h at o.tau_left;
          sigma_is = rw h at o.sigma_left;
          rx_is = rw h at o.rx_left;
          tx_is = rw h at o.tx_left;
        }

  pub take_up_outcomes_coincide : {a b : Bool} {xa xb ya yb ta tb sa sb ra rb va vb : List Float}
      → TakeUpOutcome m n x y dp_tau dp_sigma rx tx work a xa ya ta sa ra va
      → TakeUpOutcome m n x y dp_tau dp_sigma rx tx work b xb yb tb sb rb vb
      → (a ≡ b) × (xa ≡ xb) × (ya ≡ yb) × (ta ≡ tb) × (sa ≡ sb) × (ra ≡ rb) × (va ≡ vb)
  take_up_outcomes_coincide p q =
      (p.answered ∙ sym q.answered, p.x_left ∙ sym q.x_left, p.y_left ∙ sym q.y_left, p.tau_left ∙ sym q.tau_left, p.sigma_left ∙ sym q.sigma_left, p.rx_left ∙ sym q.rx_left, p.tx_left ∙ sym q.tx_left)
