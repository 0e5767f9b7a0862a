use Rattle.std.proofs.Common.{take}
use Rattle.points.specs.Entries.{entries}
use Rattle.walk.specs.Assignments.{Written, chosen_by}
use Rattle.walk.specs.Visits.{centers_in}
use Rattle.walk.proofs.visit.Visit.look.Given as goal

abbrev pub invariant-loop-i : goal.invariant-loop-i
invariant-loop-i g l = Written (chosen_by (centers_in l.self) (entries g.R.Point g.R.Record l.run.records.now)) (take l.i-index l.run.numbers.now) l.initial.out l.out
