-- What ties a table to its recording.
use Rattle.std.specs.Prelude.{ℕ, List, take}
use Rattle.std.specs.List.{between}
use Rattle.points.specs.declared.point.Point.{Ghosts as PointGhosts}
use Rattle.points.specs.declared.record.Record.{Ghosts as RecordGhosts}
use Rattle.points.specs.Entries.{Entry, recorded}
use Rattle.boxes.specs.declared.cut.Cut.{Cut}
use Rattle.boxes.specs.declared.table.BoxTable.{BoxTable}
use Rattle.boxes.specs.Agreement.{Agrees}
use Rattle.boxes.specs.Table.{node_at}

module _ {R : Type 0} {kindP : PointGhosts R} {kindR : RecordGhosts R} where
  -- the cuts of the table, in the order in which they were made
  abbrev pub cuts_of : BoxTable R kindR kindP → List Cut
  cuts_of t = take t.count t.cuts

  -- the entries of the table's recording
  abbrev pub entries_of : BoxTable R kindR kindP → List Entry
  entries_of t = recorded kindP kindR t.recording

  -- the numbers of the records of box b, as the table keeps them
  abbrev pub run_of : BoxTable R kindR kindP → ℕ → List ℕ
  run_of t b = between (node_at t.nodes b).from (node_at t.nodes b).to t.order

  -- the table is in order, as every table is: its type keeps that
  abbrev pub Stands : BoxTable R kindR kindP → Type 0
  Stands t = Agrees (entries_of t) (cuts_of t) t.nodes t.order
