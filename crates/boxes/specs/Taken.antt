-- The entries that a run has.
use Rattle.std.specs.Prelude.{List}
use Rattle.points.specs.declared.point.Point.{Ghosts as PointGhosts}
use Rattle.points.specs.declared.record.Record.{Ghosts as RecordGhosts}
use Rattle.points.specs.Entries.{Entry, entries}
use Rattle.boxes.specs.declared.run.Run.{Run}
use Rattle.boxes.specs.Runs.{picked}

-- the entries of its records, by their numbers
abbrev pub entries_in : {R : Type 0} → PointGhosts R → RecordGhosts R → Run R → List Entry
entries_in kindP kindR run = picked (entries kindP kindR run.records.now) run.numbers.now
