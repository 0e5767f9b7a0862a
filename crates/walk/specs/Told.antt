-- Tallies of groups as the code keeps them.
use Rattle.std.specs.Prelude.{◌≡◌, ℕ, ◌<◌, List, [], ℤ, pos, ◌+ℤ◌, ◌≤ℤ◌, slice_index_or}
use Rattle.numbers.specs.Sums.{summed_from}
use Rattle.points.specs.declared.position.Position.{Position}
use Rattle.grouping.specs.declared.group.Group.{Group}
use Rattle.grouping.specs.Rounding.{axis_cost}
use Rattle.grouping.specs.Distance.{Place, number}
use Rattle.boxes.specs.declared.node.Tallies.{Tallies}
use Rattle.boxes.specs.declared.run.Quantity.{Quantity}
use Rattle.boxes.specs.declared.run.Quantity.TheVariants.{Weight, Sum, Squares}

-- a quantity, as tallies tell it
abbrev pub told : Quantity → Tallies → ℤ
told Weight t = t.weight
told (Sum axis) t = number t.sums axis
told Squares t = t.squares

-- the quantities that tallies tell: sums on four axes
abbrev pub Tells : Quantity → Type 0
Tells Weight = Unit {0}
Tells (Sum axis) = axis < 4
Tells Squares = Unit {0}

-- the tallies of number k
abbrev pub tallies_at : List Tallies → ℕ → Tallies
tallies_at ts k = slice_index_or ts k (record { weight = pos 0; sums = []; squares = pos 0 })

-- what a group with these tallies costs a center at c
abbrev pub cost_of : Tallies → Place → ℤ
cost_of t c = t.squares +ℤ summed_from (λ axis x. axis_cost (number t.sums axis) t.weight x) 0 c

-- the group is that of a center at this position with these tallies
pub record TellsGroup (t : Tallies) (p : Position) (g : Group) : Type 0 where
  pub center : g.center ≡ p
  pub weight : pos 0 ≤ℤ t.weight → t.weight ≤ℤ pos 4294967295 → pos g.weight ≡ t.weight
  pub sums : g.sums ≡ t.sums
