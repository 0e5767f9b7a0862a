use Rattle.std.proofs.Common.{◌≡◌, ◌*◌, take, pos, neg_ℤ, ◌≤ℤ◌}
use Rattle.points.specs.Entries.{entries}
use Rattle.grouping.specs.Totals.{total}
use Rattle.boxes.specs.Runs.{picked}
use Rattle.boxes.specs.Tells.{measured}
use Rattle.boxes.proofs.run.Run.total_of.Given as goal

abbrev pub invariant-loop-i : goal.invariant-loop-i
invariant-loop-i g l =
    (l.sum ≡ total (measured l.quantity) (picked (entries g.R.Point g.R.Record l.self.records.now) (take l.i-index l.self.numbers.now)))
    × (neg_ℤ (pos (1125848368021500 * l.i-index)) ≤ℤ l.sum)
    × (l.sum ≤ℤ pos (1125848368021500 * l.i-index))
