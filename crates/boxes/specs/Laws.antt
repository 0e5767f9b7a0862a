-- The laws of boxes.
use Rattle.std.specs.Prelude.{◌≡◌, ℕ, List}
use Rattle.grouping.specs.Distance.{Place}
use Rattle.boxes.specs.declared.cut.Cut.{Cut}
use Rattle.boxes.specs.Regions.{Logged, Smallest}

-- a place has exactly one smallest box
abbrev pub OneSmallest : Type 0
OneSmallest = (cuts : List Cut) → Logged cuts → (p : Place) → (b : ℕ) × Smallest cuts p b × ((d : ℕ) → Smallest cuts p d → d ≡ b)
