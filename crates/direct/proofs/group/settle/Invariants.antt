use Rattle.std.proofs.Common.{◌<◌, false}
use Rattle.points.specs.Entries.{recorded}
use Rattle.grouping.specs.Groups.{places, Flat}
use Rattle.grouping.specs.Rounds.{Rounds}
use Rattle.direct.proofs.group.settle.Given as goal

abbrev pub invariant-loop-n : goal.invariant-loop-n
invariant-loop-n g l =
    Rounds (recorded g.R.Point g.R.Record l.recording) (places g.R.Point.AXES l.initial.groups) l.n false (places g.R.Point.AXES l.groups)
    × (0 < l.n → Flat g.R.Point.AXES l.groups)
