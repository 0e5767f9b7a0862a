-- What a recording means: the places of its records and how often each is held.
use Rattle.std.specs.Prelude.{ℕ, List, map, ℤ}
use Rattle.points.specs.declared.point.Point.{Ghosts as PointGhosts}
use Rattle.points.specs.declared.record.Record.{Ghosts as RecordGhosts}
use Rattle.points.specs.declared.recording.Recording.{Recording}

-- a place, and how often it is held
pub record Entry : Type 0 where
  pub place : List ℤ
  pub hold : ℕ

-- what a record means
abbrev pub entry : {R : Type 0} → PointGhosts R → RecordGhosts R → R → Entry
entry kindP kindR r = record { place = kindP.place r; hold = kindR.hold r }

-- the entries of records, in their order
abbrev pub entries : {R : Type 0} → PointGhosts R → RecordGhosts R → List R → List Entry
entries kindP kindR rs = map (λ r. entry kindP kindR r) rs

-- the entries of a recording
abbrev pub recorded : {R : Type 0} → PointGhosts R → RecordGhosts R → Recording R → List Entry
recorded kindP kindR recording = entries kindP kindR recording.records.now
