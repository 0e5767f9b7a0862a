-- The place and the hold of each kind of points. What the fields of a value could not hold is told as the nearest that they can.
use Rattle.std.specs.Prelude.{ℕ, List, [], ◌∷◌, ℤ, pos, negsuc, slice_index_or, unsigned_abs}
use Rattle.std.specs.Int.{int_max, int_min}
use Rattle.value.specs.Ranges.{nearest_in}
use Rattle.points.specs.declared.position.Position.{Position}
use Rattle.points.specs.declared.drive.DriveRecord.{DriveRecord}
use Rattle.points.specs.declared.telegram.TelegramRecord.{TelegramRecord}
use Rattle.points.specs.Telegrams.{gap_range, length_range, hold_range}

-- the number of 16 bits that is nearest to z: z itself, wherever a field of 16 bits holds it
abbrev pub told : ℤ → ℤ
told z = int_max (int_min z (pos 32767)) (negsuc 32767)

-- the four numbers in their order
abbrev pub position_place : Position → List ℤ
position_place p = told (slice_index_or p.at 0 (pos 0)) ∷ told (slice_index_or p.at 1 (pos 0)) ∷ told (slice_index_or p.at 2 (pos 0)) ∷ told (slice_index_or p.at 3 (pos 0)) ∷ []

-- lag, torque, speed, temperature
abbrev pub drive_place : DriveRecord → List ℤ
drive_place d = told d.lag ∷ told d.torque ∷ told d.speed ∷ told d.temp ∷ []

-- gap, length
abbrev pub telegram_place : TelegramRecord → List ℤ
telegram_place t = nearest_in gap_range t.gap ∷ nearest_in length_range t.length ∷ []

abbrev pub telegram_hold : TelegramRecord → ℕ
telegram_hold t = unsigned_abs (nearest_in hold_range (pos t.hold))
