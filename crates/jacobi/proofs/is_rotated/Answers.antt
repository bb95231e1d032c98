-- `jacobi::is_rotated` meets its contract.
use mathlib.Core.Path.{◌∙◌}
use Rattle.jacobi.proofs.Angles.{test_read}
use Rattle.jacobi.proofs.is_rotated.Goals as goal

pub returns : goal.returns
returns c = c.is_large.ensures ∙ test_read c.read_corners-m.ensures _
