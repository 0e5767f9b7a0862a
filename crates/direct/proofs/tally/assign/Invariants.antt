use Rattle.std.proofs.Common.{◌≡◌, take}
use Rattle.points.specs.Entries.{entries}
use Rattle.grouping.specs.Groups.{centers, places, Tallied}
use Rattle.direct.proofs.tally.assign.Given as goal

abbrev pub invariant-loop-r : goal.invariant-loop-r
invariant-loop-r g l =
    Tallied (entries g.R.Point g.R.Record (take l.r-index l.r-items)) (places g.R.Point.AXES l.initial.groups) l.groups
    × (centers l.groups ≡ centers l.initial.groups)
