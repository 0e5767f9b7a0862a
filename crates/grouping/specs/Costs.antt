-- What centers cost: the squared distances to them, each as often as its place is held.
use Rattle.std.specs.Prelude.{◌≡◌, ℕ, ◌<◌, List, [], ◌∷◌, length, ℤ, pos, ◌+ℤ◌, ◌*ℤ◌}
use Rattle.std.specs.List.{AllByRecursion}
use Rattle.points.specs.Entries.{Entry}
use Rattle.grouping.specs.Distance.{Place, dist}
use Rattle.grouping.specs.Choice.{center, choose}
use Rattle.grouping.specs.Totals.{total, within}

-- the distortion: every place costs its squared distance to the center that it belongs to
unfoldable pub distortion : List Entry → List Place → ℤ
distortion es cs = total (λ p. dist p (center cs (choose cs p))) es

-- what the group of center k costs if its center stands at x
unfoldable pub group_cost : List Entry → List Place → ℕ → Place → ℤ
group_cost es cs k x = total (within cs k (λ p. dist p x)) es

-- an assignment: for each entry the number of a center
pub record Assignment (es : List Entry) (cs : List Place) (ks : List ℕ) : Type 0 where
  pub each : length ks ≡ length es
  pub there : AllByRecursion (λ k. k < length cs) ks

-- what it costs: every place its squared distance to the center that its entry is assigned to
abbrev pub assignment_cost : List Entry → List Place → List ℕ → ℤ
assignment_cost [] cs ks = pos 0
assignment_cost (e ∷ es) cs [] = pos 0
assignment_cost (e ∷ es) cs (k ∷ ks) = pos e.hold *ℤ dist e.place (center cs k) +ℤ assignment_cost es cs ks
