use Rattle.std.proofs.Common.{◌<◌, length, refl, arith}
use Rattle.grouping.specs.declared.group.Group.{Group}
use Rattle.grouping.specs.Advances.{Sent}
use Rattle.grouping.specs.Groups.{group_at}
use Rattle.grouping.proofs.Advancing.{advanced_none, advanced_same, advanced_other, advanced_all}
use Rattle.grouping.proofs.moved.move_centers.Goals as goal
use Rattle.grouping.proofs.moved.move_centers.Goals.{then-not-same_place, else-not-same_place}

pub loop-group-init : goal.loop-group-init
loop-group-init g c = advanced_none g.R.Point.AXES c.args.groups.now

pub loop-group-preserved : goal.loop-group-preserved
loop-group-preserved g c =
    let axes = g.R.Point.AXES in
    let gs = c.args.groups.now in
    let hs = c.loop-group.group-items in
    let k = c.loop-group.group-index in
    let lh : k < length hs = omega arith in
    let h : Group = record { center = c.moved-to.result; weight = (group_at hs k).weight; sums = (group_at hs k).sums } in
    let sent : Sent axes (group_at hs k) h = record { goes = c.moved-to.ensures.goes; flat = c.moved-to.ensures.flat; weight = refl; sums = refl } in
    elim c.if-not-same_place.branch [
      | then-not-same_place w ↦ advanced_other axes k gs hs c.loop-group.changed h c.loop-group-test.true lh c.loop-group.invariant sent c.if-not-same_place.changed w.changed-is (c.same_place.ensures.other w.if-not-same_place.true)
      | else-not-same_place w ↦ advanced_same axes k gs hs c.loop-group.changed h c.loop-group-test.true lh c.loop-group.invariant sent c.if-not-same_place.changed w.changed-is (c.same_place.ensures.same w.if-not-same_place.false)
    ]

pub returns : goal.returns
returns g c = advanced_all g.R.Point.AXES c.loop-group.group-index c.args.groups.now c.loop-group.group-items c.loop-group.changed (omega arith) (omega arith) c.loop-group.invariant
