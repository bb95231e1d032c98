-- The tangent, as the code works it out.
use mathlib.Core.Path.{◌≡◌, sym, ◌∙◌, ap}
use mathlib.Core.Bool.{Bool, true, false, cond}
use lib.Ieee.{Float, binary64, of_bits, lt, neg}
use Rattle.rules.specs.Helpers.{one}
use Rattle.rules.specs.Root.{root}
use Rattle.rules.specs.Arithmetic.{◌+ᶠ◌, ◌-ᶠ◌, ◌*ᶠ◌, ◌/ᶠ◌, +0}
use Rattle.rules.specs.Jacobi.{two, hypotenuse, tangent}
use Rattle.rules.proofs.Projections.{two_is}

-- the rule's zeta, and the code's
abbrev ruled : Float → Float → Float → Float
ruled a b d = (b -ᶠ a) /ᶠ (two *ᶠ d)

abbrev zeta : Float → Float → Float → Float
zeta a b d = (b -ᶠ a) /ᶠ (of_bits binary64 0x4000_0000_0000_0000 *ᶠ d)

zeta_is : (a b d : Float) → zeta a b d ≡ ruled a b d
zeta_is a b d = ap (λ (t : Float). (b -ᶠ a) /ᶠ (t *ᶠ d)) two_is

tangent_by : (a b d : Float) (t : Bool) → lt +0 (ruled a b d) ≡ t → tangent a b d ≡ cond t (one /ᶠ (ruled a b d +ᶠ hypotenuse (ruled a b d))) (neg one /ᶠ (neg (ruled a b d) +ᶠ hypotenuse (ruled a b d)))
unfolding tangent
tangent_by a b d t e =
    ap (λ (u : Bool). cond u (one /ᶠ (ruled a b d +ᶠ hypotenuse (ruled a b d))) (neg one /ᶠ (neg (ruled a b d) +ᶠ hypotenuse (ruled a b d)))) e

module _ (a b d h : Float) (is_root : h ≡ root binary64 (one +ᶠ zeta a b d *ᶠ zeta a b d)) where
  root_is : h ≡ hypotenuse (ruled a b d)
  root_is = is_root ∙ ap hypotenuse (zeta_is a b d)

  pub tangent_above : lt +0 (zeta a b d) ≡ true → one /ᶠ (zeta a b d +ᶠ h) ≡ tangent a b d
  tangent_above t =
      ap (λ (v : Float). one /ᶠ (v +ᶠ h)) (zeta_is a b d)
      ∙ ap (λ (v : Float). one /ᶠ (ruled a b d +ᶠ v)) root_is
      ∙ sym (tangent_by a b d true (ap (λ (v : Float). lt +0 v) (sym (zeta_is a b d)) ∙ t))

  pub tangent_else : lt +0 (zeta a b d) ≡ false → neg one /ᶠ (neg (zeta a b d) +ᶠ h) ≡ tangent a b d
  tangent_else t =
      ap (λ (v : Float). neg one /ᶠ (neg v +ᶠ h)) (zeta_is a b d)
      ∙ ap (λ (v : Float). neg one /ᶠ (neg (ruled a b d) +ᶠ v)) root_is
      ∙ sym (tangent_by a b d false (ap (λ (v : Float). lt +0 v) (sym (zeta_is a b d)) ∙ t))
