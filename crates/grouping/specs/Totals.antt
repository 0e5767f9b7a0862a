-- The weight and the sums of a group, which is the entries that belong to one center.
use Rattle.std.specs.Prelude.{ℕ, cond, List, [], ◌∷◌, ℤ, pos, ◌+ℤ◌, ◌*ℤ◌, ◌==◌}
use Rattle.points.specs.Entries.{Entry}
use Rattle.grouping.specs.Distance.{Place, number}
use Rattle.grouping.specs.Choice.{choose}

-- the sum of f over the places of the entries, each as often as it is held
abbrev pub total : (Place → ℤ) → List Entry → ℤ
total f [] = pos 0
total f (e ∷ es) = pos e.hold *ℤ f e.place +ℤ total f es

-- f at the places that belong to center k, and 0 elsewhere
abbrev pub within : List Place → ℕ → (Place → ℤ) → Place → ℤ
within cs k f p = cond (choose cs p == k) (f p) (pos 0)

-- how often the places of the group of center k are held
unfoldable pub weight : List Entry → List Place → ℕ → ℤ
weight es cs k = total (within cs k (λ p. pos 1)) es

-- the sum of their numbers on an axis
unfoldable pub sum : List Entry → List Place → ℕ → ℕ → ℤ
sum es cs k axis = total (within cs k (λ p. number p axis)) es
