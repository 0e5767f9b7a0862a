use Rattle.points.specs.Entries.{entries}
use Rattle.boxes.specs.Runs.{Parted}
use Rattle.boxes.proofs.run.part.Given as goal

abbrev pub invariant-loop-i : goal.invariant-loop-i
invariant-loop-i g l = Parted (entries g.R.Point g.R.Record l.records) l.cut l.initial.run l.run l.k l.i
