-- Document 02, request (xii): a run is "taken up later from its buffers". Its six vectors stand one after another at the front of work.
use Rattle.std.specs.Prelude.{ℕ, ◌+◌, ◌≡◌, Bool, cond, List, Float}
use Rattle.rules.specs.Problem.{length_x, length_y}
use Rattle.rules.specs.Step.{part}
use Rattle.settle.specs.Settle.{settle_fits}

-- where each of them starts; x starts at 0
module _ (m n : ℕ) where
  abbrev pub from_y : ℕ
  from_y = length_x m n

  abbrev pub from_tau : ℕ
  from_tau = from_y + length_y m n

  abbrev pub from_sigma : ℕ
  from_sigma = from_tau + length_x m n

  abbrev pub from_rx : ℕ
  from_rx = from_sigma + length_y m n

  abbrev pub from_tx : ℕ
  from_tx = from_rx + length_x m n

  -- what stands for each of them in work
  pub record TakenUp (work x' y' dp_tau' dp_sigma' rx' tx' : List Float) : Type 0 where
    pub x_is : x' ≡ part 0 (length_x m n) work
    pub y_is : y' ≡ part from_y (length_y m n) work
    pub tau_is : dp_tau' ≡ part from_tau (length_x m n) work
    pub sigma_is : dp_sigma' ≡ part from_sigma (length_y m n) work
    pub rx_is : rx' ≡ part from_rx (length_x m n) work
    pub tx_is : tx' ≡ part from_tx (length_x m n) work

-- the complete outcome: it answers whether all lengths fit, as for laying them out, and where they do not nothing is changed
module _ (m n : ℕ) (x y dp_tau dp_sigma rx tx work : List Float) where
  abbrev fits : Bool
  fits = settle_fits m n x y dp_tau dp_sigma rx tx work

  pub record TakeUpOutcome (answer : Bool) (x' y' dp_tau' dp_sigma' rx' tx' : List Float) : Type 0 where
    pub answered : answer ≡ fits
    pub x_left : x' ≡ cond fits (part 0 (length_x m n) work) x
    pub y_left : y' ≡ cond fits (part (from_y m n) (length_y m n) work) y
    pub tau_left : dp_tau' ≡ cond fits (part (from_tau m n) (length_x m n) work) dp_tau
    pub sigma_left : dp_sigma' ≡ cond fits (part (from_sigma m n) (length_y m n) work) dp_sigma
    pub rx_left : rx' ≡ cond fits (part (from_rx m n) (length_x m n) work) rx
    pub tx_left : tx' ≡ cond fits (part (from_tx m n) (length_x m n) work) tx
