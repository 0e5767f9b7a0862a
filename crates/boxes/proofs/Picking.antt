-- The entries of record numbers.
use Rattle.std.proofs.Common.{◌≡◌, ℕ, ◌<◌, List, length, get_or, sym, ap, ◌∙◌}
use Rattle.std.proofs.lemmas.List.{get_or-map}
use Rattle.points.specs.declared.point.Point.{Ghosts as PointGhosts}
use Rattle.points.specs.declared.record.Record.{Ghosts as RecordGhosts}
use Rattle.points.specs.Entries.{entry, entries}
use Rattle.boxes.specs.Runs.{nothing, entry_at}

-- what the code reads at i is what the entry of number i is of
pub entry_of : {R : Type 0} (kindP : PointGhosts R) (kindR : RecordGhosts R) (rs : List R) (i : ℕ) (r : R) → i < length rs → r ≡ get_or rs i r →
    entry_at (entries kindP kindR rs) i ≡ entry kindP kindR r
entry_of kindP kindR rs i r l e = get_or-map (λ x. entry kindP kindR x) rs i r nothing l ∙ ap (λ x. entry kindP kindR x) (sym e)
