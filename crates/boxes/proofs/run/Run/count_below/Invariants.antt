use Rattle.std.proofs.Common.{◌≡◌, ◌≤◌, length, take, filter}
use Rattle.points.specs.Entries.{entries}
use Rattle.boxes.specs.Runs.{under}
use Rattle.boxes.proofs.run.Run.count_below.Given as goal

abbrev pub invariant-loop-i : goal.invariant-loop-i
invariant-loop-i g l =
    (l.n ≡ length (filter (under (entries g.R.Point g.R.Record l.self.records.now) l.cut) (take l.i-index l.self.numbers.now)))
    × (l.n ≤ l.i-index)
