-- How prepare shows its outcome.
use mathlib.Core.Path.{◌≡◌}
use mathlib.Core.Bool.{Bool, true, false}
use mathlib.Core.List.{List}
use lib.Ieee.{Float}
use Rattle.rules.specs.declared.Norms.{Norms}
use Rattle.rules.specs.Problem.{Problem, embed}
use Rattle.rules.specs.Prepare.{dp_tau_of, dp_sigma_of}
use Rattle.prepare.specs.Prepare.{PreparedOutcome, Started}
use Rattle.std.specs.Prelude.{Some, None}

-- how it shows its outcome
module _ {fits : Bool} {p : Problem} {x y tau sigma tau' sigma' : List Float} where
  pub prepared-refused : fits ≡ false → tau' ≡ tau → sigma' ≡ sigma → PreparedOutcome fits p x y tau sigma None x y tau' sigma'
  prepared-refused e is_tau is_sigma =
      record { answered = rw e; x_left = rw e; y_left = rw e; tau_left = rw (e, is_tau); sigma_left = rw (e, is_sigma) }

  pub prepared_done : {ns : Norms} {x' y' : List Float} → fits ≡ true → Started (embed p) x y ns x' y' → tau' ≡ dp_tau_of p tau → sigma' ≡ dp_sigma_of p tau
      → PreparedOutcome fits p x y tau sigma (Some ns) x' y' tau' sigma'
  prepared_done e s is_tau is_sigma =
      record {
        answered = rw (e, s.norms_are);
        x_left = rw (e, s.x_is);
        y_left = rw (e, s.y_is);
        tau_left = rw (e, is_tau);
        sigma_left = rw (e, is_sigma);
      }
