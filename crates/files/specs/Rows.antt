-- What a row of each kind means: its values in the kind's own order of the columns.
use Rattle.std.specs.Prelude.{ℕ, suc, List, [], ◌∷◌, ◌++◌, ℤ, pos, slice_index_or}
use Rattle.value.specs.Ranges.{nearest_in}
use Rattle.points.specs.declared.drive.DriveRecord.{DriveRecord}
use Rattle.points.specs.declared.telegram.TelegramRecord.{TelegramRecord}
use Rattle.points.specs.Kinds.{drive_place, telegram_place, telegram_hold, told}
use Rattle.rows.specs.declared.column.Column.{Column}
use Rattle.files.specs.declared.telegram.TelegramCenter.{TelegramCenter}

-- the values from number k on, each, or the end of its column's range that is nearest to it
abbrev pub nearests_from : ℕ → List Column → List ℤ → List ℤ
nearests_from k [] values = []
nearests_from k (c ∷ cs) values = nearest_in c.range (slice_index_or values k (pos 0)) ∷ nearests_from (suc k) cs values

abbrev pub nearests : List Column → List ℤ → List ℤ
nearests columns values = nearests_from 0 columns values

-- four numbers: those of the list, and 0 beyond it
abbrev pub padded : List ℤ → List ℤ
padded xs = slice_index_or xs 0 (pos 0) ∷ slice_index_or xs 1 (pos 0) ∷ slice_index_or xs 2 (pos 0) ∷ slice_index_or xs 3 (pos 0) ∷ []

abbrev pub drive_fields : DriveRecord → List ℤ
drive_fields r = drive_place r

-- the hold stands after the axes
abbrev pub telegram_fields : TelegramRecord → List ℤ
telegram_fields r = telegram_place r ++ pos (telegram_hold r) ∷ []

abbrev pub telegram_center_fields : TelegramCenter → List ℤ
telegram_center_fields c = told c.gap ∷ told c.length ∷ []
