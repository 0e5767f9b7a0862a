-- What can be wrong with the length of a recording.
use Rattle.std.specs.Prelude.{◌≡◌, ℕ, ◌<◌}
use Rattle.points.specs.declared.fault.RecordingFault.{RecordingFault}
use Rattle.points.specs.declared.fault.RecordingFault.TheVariants.{Empty, TooLong}

-- the number under which each fault is reported
abbrev pub number_of : RecordingFault → ℕ
number_of Empty = 1
number_of TooLong = 2

-- so many records are refused with the fault
abbrev pub Refused : ℕ → RecordingFault → Type 0
Refused n Empty = n ≡ 0
Refused n TooLong = 4096 < n
