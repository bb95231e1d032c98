-- `jacobi::rotate_rows` meets its contract.
use mathlib.Core.Path.{sym, ◌∙◌}
use borrow.Author.Rules.{rules}
use Rattle.rules.proofs.Columns.{packed_place_mirrored}
use Rattle.jacobi.proofs.Matrix.{span_none, span_inside, span_more, span_all}
use Rattle.jacobi.proofs.rotate_rows.Goals as goal

-- ---- the rows before i
pub loop-k-init : goal.loop-k-init
loop-k-init c = (span_none c.requires.packed, search rules)

pub rotate_two-requires : goal.rotate_two-requires
rotate_two-requires c = span_inside c.loop-k.invariant.0 c.requires.pair (search rules) c.place-p.ensures c.place-q.ensures

pub loop-k-preserved : goal.loop-k-preserved
loop-k-preserved c = (span_more c.loop-k.invariant.0 c.requires.pair (search rules) c.place-p.ensures c.place-q.ensures c.rotate_two.ensures, search rules)

pub loop-k-2-init : goal.loop-k-2-init
loop-k-2-init c = (span_none c.loop-k.invariant.0.packed, search rules, search rules)

pub rotate_two-requires-in-loop-k-2 : goal.rotate_two-requires-in-loop-k-2
rotate_two-requires-in-loop-k-2 c = span_inside c.loop-k-2.invariant.0 c.requires.pair (search rules) (c.place-p-in-loop-k-2.ensures ∙ packed_place_mirrored _ _) c.place-q-in-loop-k-2.ensures

pub loop-k-2-preserved : goal.loop-k-2-preserved
loop-k-2-preserved c = (span_more c.loop-k-2.invariant.0 c.requires.pair (search rules) (c.place-p-in-loop-k-2.ensures ∙ packed_place_mirrored _ _) c.place-q-in-loop-k-2.ensures c.rotate_two-in-loop-k-2.ensures, search rules, search rules)

pub loop-k-3-init : goal.loop-k-3-init
loop-k-3-init c = (span_none c.loop-k-2.invariant.0.packed, search rules, search rules)

pub rotate_two-requires-in-loop-k-3 : goal.rotate_two-requires-in-loop-k-3
rotate_two-requires-in-loop-k-3 c = span_inside c.loop-k-3.invariant.0 c.requires.pair (search rules) (c.place-p-in-loop-k-3.ensures ∙ packed_place_mirrored _ _) (c.place-q-in-loop-k-3.ensures ∙ packed_place_mirrored _ _)

pub loop-k-3-preserved : goal.loop-k-3-preserved
loop-k-3-preserved c = (span_more c.loop-k-3.invariant.0 c.requires.pair (search rules) (c.place-p-in-loop-k-3.ensures ∙ packed_place_mirrored _ _) (c.place-q-in-loop-k-3.ensures ∙ packed_place_mirrored _ _) c.rotate_two-in-loop-k-3.ensures, search rules, search rules)

-- ---- all rows
pub shape_of-x : goal.shape_of-x
shape_of-x c = c.loop-k-3.invariant.0.packed.stored ∙ sym c.requires.packed.stored

pub returns : goal.returns
returns c = span_all c.loop-k.invariant.0 (search rules) c.loop-k-2.invariant.0 (search rules) c.loop-k-3.invariant.0 (search rules)
