-- The laws of rounds in a row.
use Rattle.std.specs.Prelude.{◌≡◌, ℕ, ◌+◌, ◌*◌, ◌<◌, ◌≤◌, Bool, true, false, ◌⊎◌, List, length, ℤ, pos, ◌+ℤ◌, ◌*ℤ◌, ◌≤ℤ◌, ◌<ℤ◌, ◌≢◌}
use Rattle.numbers.specs.Sums.{summed}
use Rattle.points.specs.Entries.{Entry}
use Rattle.grouping.specs.Distance.{Place}
use Rattle.grouping.specs.Choice.{center}
use Rattle.grouping.specs.Rounds.{Moved, Rounds}
use Rattle.grouping.specs.Costs.{distortion, group_cost, Assignment, assignment_cost}
use Rattle.grouping.specs.Moving.{settled_centers}
use Rattle.grouping.specs.Ranges.{Sized, Fitting}

-- ---- rounds descend

-- the coordinate total: all numbers of all centers
unfoldable pub coordinates : List Place → ℤ
coordinates cs = summed (summed (λ x. x)) cs

-- the first centers have the lower distortion, or the same and the lower coordinate total
abbrev pub Lower : List Entry → List Place → List Place → Type 0
Lower es cs' cs = (distortion es cs' <ℤ distortion es cs) ⊎ ((distortion es cs' ≡ distortion es cs) × (coordinates cs' <ℤ coordinates cs))

-- no round raises the distortion
abbrev pub NeverRises : Type 0
NeverRises = (axes : ℕ) (es : List Entry) (cs cs' : List Place) → Sized axes es cs → Moved es cs cs' → distortion es cs' ≤ℤ distortion es cs

-- a round that moves a center leads to lower centers
abbrev pub Descends : Type 0
Descends = (axes : ℕ) (es : List Entry) (cs cs' : List Place) → Sized axes es cs → Moved es cs cs' → (cs' ≢ cs) → Lower es cs' cs

-- ---- rounds end

-- rounds keep the centers within the range of the places
abbrev pub StaysFitting : Type 0
StaysFitting = (axes : ℕ) (es : List Entry) (cs cs' : List Place) → Fitting axes es cs → Moved es cs cs' → Fitting axes es cs'

-- how many rounds in a row cannot all move a center: 1 more than the distortion before them, times 1 more than 65,535 for every number of
-- every center
abbrev pub too_many : ℕ → List Entry → List Place → ℤ
too_many axes es cs = (distortion es cs +ℤ pos 1) *ℤ pos (65535 * (length cs * axes) + 1)

-- rounds in a row that all move a center are fewer
abbrev pub Ends : Type 0
Ends = (axes : ℕ) (es : List Entry) (cs cs' : List Place) (n : ℕ) → Fitting axes es cs → Rounds es cs n false cs' → pos n <ℤ too_many axes es cs

-- rounds always come to rest: after so many of them no center moves
abbrev pub ComesToRest : Type 0
ComesToRest = (axes : ℕ) (es : List Entry) (cs : List Place) (n : ℕ) → Fitting axes es cs → too_many axes es cs ≤ℤ pos n →
    Moved es (settled_centers es n cs) (settled_centers es n cs)

-- rounds until one moves nothing, or the limit is reached, end at the settled centers
abbrev pub SettlesAt : Type 0
SettlesAt = (es : List Entry) (cs cs' : List Place) (n limit : ℕ) (settled : Bool) → Rounds es cs n settled cs' → n ≤ limit →
    (settled ≡ true) ⊎ (n ≡ limit) → cs' ≡ settled_centers es limit cs

-- ---- rest

-- no assignment costs less than the distortion, at rest or not
abbrev pub BestAssignment : Type 0
BestAssignment = (es : List Entry) (cs : List Place) (ks : List ℕ) → Assignment es cs ks → distortion es cs ≤ℤ assignment_cost es cs ks

-- where a round moves nothing, no place costs the group of a center less than the center does
abbrev pub BestPosition : Type 0
BestPosition = (axes : ℕ) (es : List Entry) (cs : List Place) → Sized axes es cs → Moved es cs cs →
    (k : ℕ) → k < length cs → (x : Place) → length x ≡ axes → group_cost es cs k (center cs k) ≤ℤ group_cost es cs k x
