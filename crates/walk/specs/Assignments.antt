-- Which center each record is assigned to.
use Rattle.std.specs.Prelude.{◌≡◌, ℕ, ◌<◌, true, false, List, length, slice_index}
use Rattle.std.specs.List.{ContainsAt as Has}
use Rattle.points.specs.Entries.{Entry}
use Rattle.grouping.specs.Choice.{choose}
use Rattle.grouping.specs.Distance.{Place}
use Rattle.boxes.specs.declared.cut.Cut.{Cut}
use Rattle.boxes.specs.Regions.{holds}
use Rattle.boxes.specs.Runs.{entry_at}

-- f of its number is written for every record of the run, and nothing for the others
pub record Written (f : ℕ → ℕ) (run old new : List ℕ) : Type 0 where
  pub each : (i : ℕ) → Has run i → slice_index new i ≡ f i
  pub others : (i : ℕ) → (Has run i → ⊥) → slice_index new i ≡ slice_index old i

-- the number of the center that the record of number i belongs to
abbrev pub chosen_by : List Place → List Entry → ℕ → ℕ
chosen_by cs es i = choose cs (entry_at es i).place

-- every record of box b is assigned to the center that it belongs to, and nothing is written for the others
pub record AssignedIn (cs : List Place) (es : List Entry) (cuts : List Cut) (b : ℕ) (old new : List ℕ) : Type 0 where
  pub inside : (i : ℕ) → i < length es → holds cuts b (entry_at es i).place ≡ true → slice_index new i ≡ chosen_by cs es i
  pub outside : (i : ℕ) → i < length es → holds cuts b (entry_at es i).place ≡ false → slice_index new i ≡ slice_index old i

-- every record is
abbrev pub Assigned : List Place → List Entry → List ℕ → Type 0
Assigned cs es out = (length out ≡ length es) × ((i : ℕ) → i < length es → slice_index out i ≡ chosen_by cs es i)
