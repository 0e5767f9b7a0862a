use Rattle.std.proofs.Common.{◌≡◌, take}
use Rattle.points.specs.Entries.{entries}
use Rattle.boxes.specs.Runs.{picked}
use Rattle.walk.specs.Growth.{Grown}
use Rattle.walk.specs.Visits.{centers_in}
use Rattle.walk.proofs.visit.Visit.read.Given as goal

abbrev pub invariant-loop-i : goal.invariant-loop-i
invariant-loop-i g l =
    Grown (centers_in l.self) (picked (entries g.R.Point g.R.Record l.run.records.now) (take l.i-index l.run.numbers.now)) l.initial.out.groups l.out.groups
    × (l.out.distances ≡ l.initial.out.distances)
    × (l.out.queries ≡ l.initial.out.queries)
