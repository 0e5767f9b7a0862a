use Rattle.boxes.specs.Standing.{cuts_of, entries_of}
use Rattle.walk.proofs.Steps.{covered_root}
use Rattle.walk.proofs.visit.Visit.root.Goals as goal

pub invariant_of-result : goal.invariant_of-result
invariant_of-result g c =
    let t = c.root.result.table.now in
    record { covered = ∣ covered_root g.R.Point.AXES c.all.result (cuts_of t) c.root.result.number (entries_of t) c.root.ensures.is (c.all.ensures.all g.R.Point.AXES) ∣₁ }
