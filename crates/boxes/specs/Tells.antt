-- What a box tells of its entries.
use Rattle.std.specs.Prelude.{◌≡◌, ℕ, ◌<◌, List, map, ℤ, pos, ◌≤ℤ◌}
use Rattle.std.specs.List.{ContainsAt as Has, AllByRecursion}
use Rattle.points.specs.declared.bounds.Bounds.{Bounds}
use Rattle.points.specs.Kinds.{position_place}
use Rattle.points.specs.Entries.{Entry}
use Rattle.grouping.specs.Distance.{Place, number}
use Rattle.grouping.specs.Expansion.{norm}
use Rattle.grouping.specs.Totals.{total}
use Rattle.boxes.specs.declared.node.Tallies.{Tallies}
use Rattle.boxes.specs.declared.run.Quantity.{Quantity}
use Rattle.boxes.specs.declared.run.Quantity.TheVariants.{Weight, Sum, Squares}

-- a quantity of one place
abbrev pub measured : Quantity → Place → ℤ
measured Weight p = pos 1
measured (Sum axis) p = number p axis
measured Squares p = norm p

-- the numbers of the entries on an axis
abbrev pub numbers_on : ℕ → List Entry → List ℤ
numbers_on axis es = map (λ e. number e.place axis) es

-- z is the least of the numbers that the entries have on the axis
pub record Lowest (axis : ℕ) (es : List Entry) (z : ℤ) : Type 0 where
  pub one_of : Has (numbers_on axis es) z
  pub below : AllByRecursion (λ x. z ≤ℤ x) (numbers_on axis es)

-- z is the greatest
pub record Highest (axis : ℕ) (es : List Entry) (z : ℤ) : Type 0 where
  pub one_of : Has (numbers_on axis es) z
  pub above : AllByRecursion (λ x. x ≤ℤ z) (numbers_on axis es)

-- the bounds are those of the entries, on all four axes: 0 on those that the entries have not
pub record BoundsOf (es : List Entry) (bounds : Bounds) : Type 0 where
  pub low : (axis : ℕ) → axis < 4 → Lowest axis es (number (position_place bounds.least) axis)
  pub high : (axis : ℕ) → axis < 4 → Highest axis es (number (position_place bounds.greatest) axis)

-- the tallies are those of the entries, the sums on all four axes
pub record TalliesOf (es : List Entry) (tallies : Tallies) : Type 0 where
  pub weight : tallies.weight ≡ total (measured Weight) es
  pub sums : (axis : ℕ) → axis < 4 → number tallies.sums axis ≡ total (measured (Sum axis)) es
  pub squares : tallies.squares ≡ total (measured Squares) es
