-- Groups as the code keeps them.
use Rattle.std.specs.Prelude.{◌≡◌, ℕ, ◌<◌, ◌≤◌, List, [], map, length, take, ℤ, pos, ◌≢◌, slice_index_or}
use Rattle.points.specs.declared.position.Position.{Position}
use Rattle.points.specs.Kinds.{position_place, told}
use Rattle.points.specs.Entries.{Entry}
use Rattle.grouping.specs.declared.group.Group.{Group}
use Rattle.grouping.specs.Distance.{Place, number}
use Rattle.grouping.specs.Totals.{weight, sum}
use Rattle.grouping.specs.Rounding.{Rounded}

-- the place of a position for points with so many axes: the numbers on the first of its four
abbrev pub place_of : ℕ → Position → Place
place_of axes p = take axes (position_place p)

-- the positions of the centers
abbrev pub centers : List Group → List Position
centers gs = map (λ g. g.center) gs

-- the places of the centers
abbrev pub places : ℕ → List Group → List Place
places axes gs = map (λ g. place_of axes g.center) gs

-- a group of nothing, which stands for the groups past the last
abbrev pub no_group : Group
no_group = record { center = record { at = [] }; weight = 0; sums = [] }

-- the group of number k
abbrev pub group_at : List Group → ℕ → Group
group_at gs k = slice_index_or gs k no_group

-- the groups tell the weights and the sums of the groups of the centers cs, on all four axes: 0 on those that the entries have not
pub record Tallied (es : List Entry) (cs : List Place) (gs : List Group) : Type 0 where
  pub weighs : (k : ℕ) → k < length cs → pos (group_at gs k).weight ≡ weight es cs k
  pub sums : (k axis : ℕ) → k < length cs → axis < 4 → number (group_at gs k).sums axis ≡ sum es cs k axis

-- z is where the center of the group goes on an axis: where it stands, if there is no weight, else to the rounded mean, or the
-- number of 16 bits that is nearest to that
pub record Goes (group : Group) (axis : ℕ) (z : ℤ) : Type 0 where
  pub stays : group.weight ≡ 0 → z ≡ number (position_place group.center) axis
  pub goes : (group.weight ≢ 0) → (m : ℤ) × (Rounded (number group.sums axis) (pos group.weight) m × (z ≡ told m))

-- no center stands off 0 on an axis from this number on
abbrev pub Flat : ℕ → List Group → Type 0
Flat axes gs = (k axis : ℕ) → axes ≤ axis → number (position_place (group_at gs k).center) axis ≡ pos 0
