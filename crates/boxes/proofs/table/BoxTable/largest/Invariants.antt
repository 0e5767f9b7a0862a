use Rattle.std.proofs.Common.{◌≡◌, ℕ, ◌<◌}
use Rattle.std.specs.Option.{MatchOption}
use Rattle.boxes.specs.Halving.{Halvable, LargestBelow}
use Rattle.boxes.specs.Standing.{cuts_of, entries_of}
use Rattle.boxes.proofs.table.BoxTable.largest.Given as goal

abbrev pub invariant-loop-number : goal.invariant-loop-number
invariant-loop-number g l =
    MatchOption l.largest
    ((d : ℕ) → d < l.number → Halvable g.R.Point.AXES (entries_of l.self) (cuts_of l.self) d → ⊥)
    (λ at. (at.table.now ≡ l.self) × LargestBelow g.R.Point.AXES (entries_of l.self) (cuts_of l.self) l.number at.number)
