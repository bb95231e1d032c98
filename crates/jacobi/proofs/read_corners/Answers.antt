-- `jacobi::read_corners` meets its contract.
use native.Mathlib.Omega.{arith}
use Prim.Native.Nat.{◌<◌}
use lib.ListN.{length}
use Rattle.jacobi.proofs.Matrix.{corners_inside, corners_read}
use Rattle.jacobi.proofs.read_corners.Goals as goal

pub offset_bounds-x-ii : goal.offset_bounds-x-ii
offset_bounds-x-ii c =
    let inside : (c.place-ii.result < length c.args.x.now) × (c.place-jj.result < length c.args.x.now) × (c.place-ij.result < length c.args.x.now) = corners_inside c.requires.packed c.requires.pair c.place-ii.ensures c.place-jj.ensures c.place-ij.ensures in
    omega (arith, inside)

pub bounds-x-ii : goal.bounds-x-ii
bounds-x-ii c =
    let inside : (c.place-ii.result < length c.args.x.now) × (c.place-jj.result < length c.args.x.now) × (c.place-ij.result < length c.args.x.now) = corners_inside c.requires.packed c.requires.pair c.place-ii.ensures c.place-jj.ensures c.place-ij.ensures in
    inside.0

pub offset_bounds-x-jj : goal.offset_bounds-x-jj
offset_bounds-x-jj c =
    let inside : (c.place-ii.result < length c.args.x.now) × (c.place-jj.result < length c.args.x.now) × (c.place-ij.result < length c.args.x.now) = corners_inside c.requires.packed c.requires.pair c.place-ii.ensures c.place-jj.ensures c.place-ij.ensures in
    omega (arith, inside)

pub bounds-x-jj : goal.bounds-x-jj
bounds-x-jj c =
    let inside : (c.place-ii.result < length c.args.x.now) × (c.place-jj.result < length c.args.x.now) × (c.place-ij.result < length c.args.x.now) = corners_inside c.requires.packed c.requires.pair c.place-ii.ensures c.place-jj.ensures c.place-ij.ensures in
    inside.1

pub offset_bounds-x-ij : goal.offset_bounds-x-ij
offset_bounds-x-ij c =
    let inside : (c.place-ii.result < length c.args.x.now) × (c.place-jj.result < length c.args.x.now) × (c.place-ij.result < length c.args.x.now) = corners_inside c.requires.packed c.requires.pair c.place-ii.ensures c.place-jj.ensures c.place-ij.ensures in
    omega (arith, inside)

pub bounds-x-ij : goal.bounds-x-ij
bounds-x-ij c =
    let inside : (c.place-ii.result < length c.args.x.now) × (c.place-jj.result < length c.args.x.now) × (c.place-ij.result < length c.args.x.now) = corners_inside c.requires.packed c.requires.pair c.place-ii.ensures c.place-jj.ensures c.place-ij.ensures in
    inside.2

pub returns : goal.returns
returns c = corners_read c.place-ii.ensures c.place-jj.ensures c.place-ij.ensures
