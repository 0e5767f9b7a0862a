use Rattle.std.proofs.Common.{◌≡◌, ◌-◌, ◌≤◌}
use Rattle.boxes.specs.Halving.{Halvings}
use Rattle.boxes.specs.Standing.{cuts_of, entries_of}
use Rattle.boxes.proofs.table.BoxTable.halve.Given as goal

abbrev pub invariant-loop-n : goal.invariant-loop-n
invariant-loop-n g l =
    Halvings g.R.Point.AXES (entries_of l.initial.self) (cuts_of l.initial.self) l.n (cuts_of l.self)
    × (l.self.recording ≡ l.initial.self.recording)
    × (l.n ≤ l.self.count)

abbrev pub decreases-loop-n : goal.decreases-loop-n
decreases-loop-n g l = 127 - l.self.count
