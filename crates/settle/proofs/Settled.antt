-- Laws of how an ending leaves work and cone work.
use Prim.Native.Nat.{ℕ}
use mathlib.Core.Path.{◌≡◌, sym, ◌∙◌}
use mathlib.Core.Bool.{Bool, true}
use mathlib.Core.List.{List}
use borrow.Author.Tests.{leb-true, eqb-true, le-leb, eq-eqb}
use lib.Ieee.{Float}
use Rattle.rules.specs.declared.Ending.{Ending}
use Rattle.rules.proofs.Matrices.{both_true}
use Rattle.settle.specs.Settle.{settle_fits, Fitting, Settled, SettleOutcome}

module _ {m n : ℕ} {x y dp_tau dp_sigma rx tx work : List Float} where
  pub fits_fitting : settle_fits m n x y dp_tau dp_sigma rx tx work ≡ true → Fitting m n x y dp_tau dp_sigma rx tx work
  unfolding settle_fits
  fits_fitting h =
      let w = both_true _ _ h in
      let t = both_true _ _ w.0 in
      let r = both_true _ _ t.0 in
      let s = both_true _ _ r.0 in
      let d = both_true _ _ s.0 in
      let v = both_true _ _ d.0 in
      let u = both_true _ _ v.0 in
      let k = both_true _ _ u.0 in
      record {
        m_within = leb-true _ _ k.0;
        n_within = leb-true _ _ k.1;
        x_long = eqb-true _ _ u.1;
        y_long = eqb-true _ _ v.1;
        tau_long = eqb-true _ _ d.1;
        sigma_long = eqb-true _ _ s.1;
        rx_long = eqb-true _ _ r.1;
        tx_long = eqb-true _ _ t.1;
        work_long = leb-true _ _ w.1;
      }

  pub fitting_fits : Fitting m n x y dp_tau dp_sigma rx tx work → settle_fits m n x y dp_tau dp_sigma rx tx work ≡ true
  unfolding settle_fits
  fitting_fits f =
      rw (le-leb _ _ f.m_within, le-leb _ _ f.n_within, eq-eqb _ _ f.x_long, eq-eqb _ _ f.y_long, eq-eqb _ _ f.tau_long, eq-eqb _ _ f.sigma_long, eq-eqb _ _ f.rx_long, eq-eqb _ _ f.tx_long, le-leb _ _ f.work_long)

  module _ {e : Ending} {cone x' work' cone' : List Float} where
    -- for a caller whose lengths fit
    pub settled_if_fitting : {answer : Bool} → Fitting m n x y dp_tau dp_sigma rx tx work → SettleOutcome m n x y dp_tau dp_sigma rx tx work e cone answer x' work' cone' → Settled m n x y dp_tau dp_sigma rx tx work e cone x' work' cone'
    settled_if_fitting f o =
        let h = fitting_fits f in
        record { x_left = rw h at o.x_left; work_is = rw h at o.work_left; cone_is = rw h at o.cone_left }

  pub settle_outcomes_coincide : {e : Ending} {cone : List Float} {a b : Bool} {xa xb wa wb ca cb : List Float} → SettleOutcome m n x y dp_tau dp_sigma rx tx work e cone a xa wa ca → SettleOutcome m n x y dp_tau dp_sigma rx tx work e cone b xb wb cb → (a ≡ b) × (xa ≡ xb) × (wa ≡ wb) × (ca ≡ cb)
  settle_outcomes_coincide p q = (p.answered ∙ sym q.answered, p.x_left ∙ sym q.x_left, p.work_left ∙ sym q.work_left, p.cone_left ∙ sym q.cone_left)
