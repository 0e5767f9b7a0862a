use Rattle.walk.proofs.Steps.{covered_parts}
use Rattle.walk.proofs.visit.Visit.split.Goals as goal

pub invariant_of-first : goal.invariant_of-first
invariant_of-first g c =
    let s = c.in_ok-split.split in
    let e = c.in_ok-split.ensures in
    record { covered = ∣ (covered_parts c.args.self.now s.cut s.first.number s.second.number s.first.table.now s.second.table.now e.is e.tables.0 e.tables.1).0 ∣₁ }

pub invariant_of-second : goal.invariant_of-second
invariant_of-second g c =
    let s = c.in_ok-split.split in
    let e = c.in_ok-split.ensures in
    record { covered = ∣ (covered_parts c.args.self.now s.cut s.first.number s.second.number s.first.table.now s.second.table.now e.is e.tables.0 e.tables.1).1 ∣₁ }
