-- `jacobi::rotate_matrix` meets its contract.
use native.Mathlib.Omega.{arith}
use Prim.Native.Nat.{◌<◌}
use lib.ListN.{length, length-set}
use Rattle.rules.proofs.Projections.{two_is}
use Rattle.jacobi.proofs.Matrix.{corners_inside, rotated_stores}
use Rattle.jacobi.proofs.rotate_matrix.Goals as goal

pub offset_bounds-x-ii : goal.offset_bounds-x-ii
offset_bounds-x-ii c =
    let inside : (c.place-ii.result < length c.args.x.now) × (c.place-jj.result < length c.args.x.now) × (c.place-ij.result < length c.args.x.now) = corners_inside c.requires.packed c.requires.pair c.place-ii.ensures c.place-jj.ensures c.place-ij.ensures in
    omega (arith, c.rotate_rows.ensures.same, inside)

pub bounds-x-ii : goal.bounds-x-ii
bounds-x-ii c =
    let inside : (c.place-ii.result < length c.args.x.now) × (c.place-jj.result < length c.args.x.now) × (c.place-ij.result < length c.args.x.now) = corners_inside c.requires.packed c.requires.pair c.place-ii.ensures c.place-jj.ensures c.place-ij.ensures in
    omega (arith, c.rotate_rows.ensures.same, inside)

pub offset_bounds-x-jj : goal.offset_bounds-x-jj
offset_bounds-x-jj c =
    let inside : (c.place-ii.result < length c.args.x.now) × (c.place-jj.result < length c.args.x.now) × (c.place-ij.result < length c.args.x.now) = corners_inside c.requires.packed c.requires.pair c.place-ii.ensures c.place-jj.ensures c.place-ij.ensures in
    omega (arith, c.rotate_rows.ensures.same, inside)

pub bounds-x-jj : goal.bounds-x-jj
bounds-x-jj c =
    let inside : (c.place-ii.result < length c.args.x.now) × (c.place-jj.result < length c.args.x.now) × (c.place-ij.result < length c.args.x.now) = corners_inside c.requires.packed c.requires.pair c.place-ii.ensures c.place-jj.ensures c.place-ij.ensures in
    simp length-set (omega (arith, c.rotate_rows.ensures.same, inside))

pub offset_bounds-x-ij : goal.offset_bounds-x-ij
offset_bounds-x-ij c =
    let inside : (c.place-ii.result < length c.args.x.now) × (c.place-jj.result < length c.args.x.now) × (c.place-ij.result < length c.args.x.now) = corners_inside c.requires.packed c.requires.pair c.place-ii.ensures c.place-jj.ensures c.place-ij.ensures in
    omega (arith, c.rotate_rows.ensures.same, inside)

pub bounds-x-ij : goal.bounds-x-ij
bounds-x-ij c =
    let inside : (c.place-ii.result < length c.args.x.now) × (c.place-jj.result < length c.args.x.now) × (c.place-ij.result < length c.args.x.now) = corners_inside c.requires.packed c.requires.pair c.place-ii.ensures c.place-jj.ensures c.place-ij.ensures in
    simp length-set (omega (arith, c.rotate_rows.ensures.same, inside))

pub shape_of-x : goal.shape_of-x
shape_of-x c = simp length-set c.rotate_rows.ensures.same

pub returns : goal.returns
returns c = rw two_is (rotated_stores c.rotate_rows.ensures c.requires.packed c.requires.pair c.read_corners-m.ensures c.place-ii.ensures c.place-jj.ensures c.place-ij.ensures)
