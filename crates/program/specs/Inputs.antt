-- The two files of the program, either of which may be missing or too long.
use Rattle.std.specs.Prelude.{◌≡◌, ℕ, ◌<◌, ◌≤◌, List, length, ℤ, Some, None, Ok, Err, Option, Result}
use Rattle.std.specs.Borrow.{Bor}
use Rattle.std.specs.Option.{option_map}
use Rattle.rows.specs.declared.kind.FileKind.{FileKind}
use Rattle.faults.specs.declared.file.FileFault.{FileFault}
use Rattle.files.specs.Format.{Outcome, Spelled, WithinLimits}
use Rattle.files.specs.Reads.{FileRead}
use Rattle.faults.specs.declared.program.ProgramFault.{ProgramFault}
use Rattle.faults.specs.declared.program.ProgramFault.TheVariants.{CannotOpen, TooLong, File}

-- the bytes of a file; None where it cannot be opened
abbrev pub bytes_of : Option (Bor (List ℕ)) → Option (List ℕ)
bytes_of input = option_map (λ r. r.now) input

-- the file can be opened, and is not too long
abbrev pub Usable : Option (List ℕ) → List ℕ → Type 0
Usable input bytes = (input ≡ Some bytes) × (length bytes ≤ 65536)

-- why it cannot be used
abbrev pub Unusable : ℕ → Option (List ℕ) → ProgramFault → Type 0
Unusable file input (CannotOpen n) = (n ≡ file) × (input ≡ None)
Unusable file input (TooLong n) = (n ≡ file) × ((bytes : List ℕ) × (input ≡ Some bytes) × (65536 < length bytes))
Unusable file input (File n fault) = ⊥

abbrev pub Admitted : ℕ → Option (List ℕ) → Result (Bor (List ℕ)) ProgramFault → Type 0
Admitted file input (Ok bytes) = Usable input bytes.now
Admitted file input (Err fault) = Unusable file input fault

-- the file is read into the table, or why not
abbrev pub Loaded : {R : Type 0} → ℕ → FileKind → (R → List ℤ) → Option (List ℕ) → List R → List R → Result ℕ ProgramFault → Type 0
Loaded file kind fields input old new (Ok n) = (bytes : List ℕ) × Usable input bytes × FileRead kind fields bytes old new (Ok n)
Loaded file kind fields input old new (Err (CannotOpen n)) = Unusable file input (CannotOpen n)
Loaded file kind fields input old new (Err (TooLong n)) = Unusable file input (TooLong n)
Loaded file kind fields input old new (Err (File n fault)) = (n ≡ file) × ((bytes : List ℕ) × Usable input bytes × FileRead kind fields bytes old new (Err fault))

-- the first fault of a file of this kind, read into a table of 4,096 rows
pub data Refused (file : ℕ) (kind : FileKind) (input : Option (List ℕ)) : ProgramFault → Type 0 where
  unusable : {fault : ProgramFault} → Unusable file input fault → Refused file kind input fault
  faulty : {bytes : List ℕ} {rows : List (List ℤ)} {fault : FileFault} → Usable input bytes → Outcome kind 4096 bytes rows (Some fault) → Refused file kind input (File file fault)

-- the file is written by the format, within the limits, and has these rows
pub record Accepted (kind : FileKind) (input : Option (List ℕ)) (rows : List (List ℤ)) : Type 0 where
  pub bytes : List ℕ
  pub usable : Usable input bytes
  pub spelled : Spelled kind bytes rows
  pub limits : WithinLimits kind 4096 (length rows)
