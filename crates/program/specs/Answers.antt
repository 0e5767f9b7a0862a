-- What the program answers to two files.
use Rattle.std.specs.Prelude.{◌≡◌, ℕ, List, map, length, take, ℤ, pos, Some, Ok, Err, Option, Result, slice_index_or, unsigned_abs}
use Rattle.points.specs.declared.point.Point.{Ghosts as PointGhosts}
use Rattle.points.specs.declared.record.Record.{Ghosts as RecordGhosts}
use Rattle.points.specs.Entries.{Entry, entries}
use Rattle.rows.specs.declared.kind.FileKind.{FileKind}
use Rattle.rows.specs.declared.kind.FileKind.TheVariants.{DriveRecords, TelegramRecords, DriveCenters, TelegramCenters}
use Rattle.files.specs.Format.{Named, Unnamed}
use Rattle.files.specs.Rows.{padded}
use Rattle.grouping.specs.declared.group.Group.{Group}
use Rattle.grouping.specs.Distance.{Place}
use Rattle.grouping.specs.Groups.{Tallied, places}
use Rattle.grouping.specs.Moving.{settled_centers}
use Rattle.faults.specs.declared.program.ProgramFault.{ProgramFault}
use Rattle.program.specs.declared.report.Report.{Report}
use Rattle.program.specs.Inputs.{Accepted, Refused}

-- the groups of a report
abbrev pub groups_in : Report → List Group
groups_in report = take report.count report.groups

-- The report has the centers that rounds from these places come to, until one moves nothing and at most 100; and the weights and sums
-- of their groups.
pub record GroupedFrom (kind : FileKind) (axes : ℕ) (es : List Entry) (starts : List Place) (report : Report) : Type 0 where
  pub kind_is : report.kind ≡ kind
  pub count_is : report.count ≡ length starts
  pub centers_are : places axes (groups_in report) ≡ settled_centers es 100 starts
  pub tallied : Tallied es (places axes (groups_in report)) (groups_in report)

-- the place of a center row
abbrev pub start_at : {C : Type 0} → ℕ → (C → List ℤ) → C → Place
start_at axes fields c = take axes (padded (fields c))

-- what is answered where the kind of the records is known, over the records and center rows themselves
pub data KindAnswers {R C : Type 0} (point : PointGhosts R) (record_of : RecordGhosts R) (kind centerKind : FileKind) (fields : R → List ℤ) (centerFields : C → List ℤ) (recording centers : Option (List ℕ)) : Result Report ProgramFault → Type 0 where
  first_refused : {fault : ProgramFault} → Refused 1 kind recording fault → KindAnswers point record_of kind centerKind fields centerFields recording centers (Err fault)
  second_refused : (rs : List R) {fault : ProgramFault} → Accepted kind recording (map fields rs) → Refused 2 centerKind centers fault → KindAnswers point record_of kind centerKind fields centerFields recording centers (Err fault)
  both_read : (rs : List R) (cs : List C) {report : Report} → Accepted kind recording (map fields rs) → Accepted centerKind centers (map centerFields cs) → GroupedFrom centerKind point.AXES (entries point record_of rs) (map (start_at point.AXES centerFields) cs) report → KindAnswers point record_of kind centerKind fields centerFields recording centers (Ok report)

-- ---- the program

-- the kind of the center file that goes with a recording
abbrev pub centers_of : FileKind → FileKind
centers_of DriveRecords = DriveCenters
centers_of TelegramRecords = TelegramCenters
centers_of DriveCenters = DriveCenters
centers_of TelegramCenters = TelegramCenters

abbrev pub axes_of : FileKind → ℕ
axes_of DriveRecords = 4
axes_of TelegramRecords = 2
axes_of DriveCenters = 4
axes_of TelegramCenters = 2

-- what a row of a recording means: its place, and its hold, which is 1 for a drive record
abbrev pub entry_of : FileKind → List ℤ → Entry
entry_of DriveRecords row = record { place = row; hold = 1 }
entry_of TelegramRecords row = record { place = take 2 row; hold = unsigned_abs (slice_index_or row 2 (pos 0)) }
entry_of DriveCenters row = record { place = row; hold = 1 }
entry_of TelegramCenters row = record { place = row; hold = 1 }

-- The names in its first line settle the kind of a recording: those of a drive recording, or else it is read as one of telegrams,
-- so that a file with the names of neither is refused for its names.
abbrev pub Settles : Option (List ℕ) → FileKind → Type 0
Settles input DriveRecords = (bytes : List ℕ) × (input ≡ Some bytes) × Named DriveRecords bytes
Settles input TelegramRecords = (bytes : List ℕ) → input ≡ Some bytes → Unnamed DriveRecords bytes
Settles input DriveCenters = ⊥
Settles input TelegramCenters = ⊥

-- The recording is looked at before the centers. A fault is the first of its file. Where both files are accepted, the report is of
-- the records that the first spells, grouped around the centers that the second spells.
pub data Answers (recording centers : Option (List ℕ)) : Result Report ProgramFault → Type 0 where
  recording_refused : {kind : FileKind} {fault : ProgramFault} → Settles recording kind → Refused 1 kind recording fault → Answers recording centers (Err fault)
  centers_refused : {kind : FileKind} {rows : List (List ℤ)} {fault : ProgramFault} → Settles recording kind → Accepted kind recording rows → Refused 2 (centers_of kind) centers fault → Answers recording centers (Err fault)
  grouped : {kind : FileKind} {rows starts : List (List ℤ)} {report : Report} → Settles recording kind → Accepted kind recording rows → Accepted (centers_of kind) centers starts → GroupedFrom (centers_of kind) (axes_of kind) (map (entry_of kind) rows) starts report → Answers recording centers (Ok report)
