-- What one record adds to a group.
use Rattle.std.specs.Prelude.{◌≡◌, ℕ, ◌+◌, ◌*◌, ◌^◌, ◌<◌, ◌≤◌, List, length, pos, ◌+ℤ◌, ◌*ℤ◌, neg_ℤ, ◌≤ℤ◌}
use Rattle.grouping.specs.declared.group.Group.{Group}
use Rattle.grouping.specs.Distance.{Place, number}
use Rattle.grouping.specs.Groups.{group_at}

-- no group has a weight or a sum
pub record Clear (gs : List Group) : Type 0 where
  pub weight : (k : ℕ) → k < length gs → (group_at gs k).weight ≡ 0
  pub sums : (k axis : ℕ) → k < length gs → number (group_at gs k).sums axis ≡ pos 0

-- there is room for one record more
pub record Room (g : Group) : Type 0 where
  pub weight : g.weight ≤ 65535 * 4095
  pub low : (axis : ℕ) → axis < 4 → neg_ℤ (pos (2 ^ 44)) ≤ℤ number g.sums axis
  pub high : (axis : ℕ) → axis < 4 → number g.sums axis ≤ℤ pos (2 ^ 44)

-- the group h is g with the place p, held so often
pub record Added (g : Group) (p : Place) (hold : ℕ) (h : Group) : Type 0 where
  pub center : h.center ≡ g.center
  pub weight : h.weight ≡ g.weight + hold
  pub sums : (axis : ℕ) → axis < 4 → number h.sums axis ≡ number g.sums axis +ℤ pos hold *ℤ number p axis
