-- What the functions of one step ask and leave: update_vecs of solver.rs, part by part.
use Rattle.std.specs.Prelude.{ℕ, ◌+◌, ◌≡◌, List, ◌++◌, Float, take, drop, set}
use Rattle.std.specs.Float.Ieee.{neg}
use Rattle.rules.specs.declared.Shape.{Shape}
use Rattle.rules.specs.Helpers.{one, larger, smaller}
use Rattle.rules.specs.Arithmetic.{◌-ᶠ◌, +0, at}
use Rattle.rules.specs.Vectors.{added, transformed_di}
use Rattle.rules.specs.Problem.{Slices, Embed, length_y}
use Rattle.rules.specs.Step.{op_k, trans_op_k}
use Rattle.shape.specs.Fitting.{Fits, LikeX, LikeY}

-- ---- x

-- what a move of x asks
pub record CanMoveX (shape : Shape) (c : List Float) (a : Slices) (b x y dp_tau rx tx : List Float) : Type 0 where
  pub operators : Fits shape c a b
  pub x_like : LikeX shape x
  pub y_like : LikeY shape y
  pub tau_like : LikeX shape dp_tau
  pub rx_like : LikeX shape rx
  pub tx_like : LikeX shape tx

-- x, rx and tx after x was moved
pub record XMoved (k : Embed) (x y dp_tau tx x' rx' tx' : List Float) : Type 0 where
  pub tx_is : tx' ≡ trans_op_k k (neg one) y +0 tx
  pub rx_is : rx' ≡ x
  pub x_is : x' ≡ transformed_di one dp_tau (trans_op_k k (neg one) y +0 tx) one x

-- ---- tau

-- the place of tau, and tau taken at 0
abbrev pub tau_place : Shape → ℕ
tau_place shape = shape.cols.0 + shape.rows.0 + shape.rows.0

abbrev pub taken_in : Shape → List Float → List Float
taken_in shape x = set x (tau_place shape) (larger (at x (tau_place shape)) +0)

-- ---- y

-- what a move of y asks
pub record CanMoveY (shape : Shape) (c : List Float) (a : Slices) (b x y dp_sigma rx tx : List Float) : Type 0 where
  pub operators : Fits shape c a b
  pub x_like : LikeX shape x
  pub y_like : LikeY shape y
  pub sigma_like : LikeY shape dp_sigma
  pub rx_like : LikeX shape rx
  pub tx_like : LikeX shape tx

-- y, rx and tx after y was moved
module _ (k : Embed) (x y dp_sigma rx tx : List Float) where
  abbrev pub next_rx : List Float
  next_rx = added (neg one -ᶠ one) x rx

  abbrev pub next_ty : List Float
  next_ty = op_k k (neg one) next_rx +0 (take (length_y k.m k.n) tx)

  abbrev pub next_y : List Float
  next_y = transformed_di one dp_sigma next_ty one y

pub record YMoved (k : Embed) (x y dp_sigma rx tx y' rx' tx' : List Float) : Type 0 where
  pub rx_is : rx' ≡ next_rx k x y dp_sigma rx tx
  pub tx_is : tx' ≡ next_ty k x y dp_sigma rx tx ++ drop (length_y k.m k.n) tx
  pub y_is : y' ≡ set (next_y k x y dp_sigma rx tx) (k.n + k.m) (smaller (at (next_y k x y dp_sigma rx tx) (k.n + k.m)) +0)
