-- The laws of a round.
use Rattle.std.specs.Prelude.{◌≡◌, ℕ, ◌<◌, List, length, ℤ, pos, ◌+ℤ◌, ◌≤ℤ◌, ◌<ℤ◌, ◌≢◌}
use Rattle.std.specs.List.Sorted.{IsPermutation}
use Rattle.points.specs.Entries.{Entry}
use Rattle.grouping.specs.Distance.{Place}
use Rattle.grouping.specs.Choice.{Chosen, choose}
use Rattle.grouping.specs.Totals.{weight, sum}
use Rattle.grouping.specs.Unfolded.{unfolded}
use Rattle.grouping.specs.Rounding.{Rounded, rounded, axis_cost}
use Rattle.grouping.specs.Rounds.{Moved}
use Rattle.grouping.specs.Costs.{distortion}
use Rattle.grouping.specs.Moving.{move, settled_centers}

-- ---- the choice of a center

-- of one or more centers exactly one is chosen
abbrev pub OneChosen : Type 0
OneChosen = (cs : List Place) (p : Place) → 0 < length cs → Chosen cs p (choose cs p) × ((k : ℕ) → Chosen cs p k → k ≡ choose cs p)

-- ---- the mean

-- there is exactly one rounded mean
abbrev pub OneMean : Type 0
OneMean = (s w : ℤ) → pos 0 <ℤ w → Rounded s w (rounded s w) × ((m : ℤ) → Rounded s w m → m ≡ rounded s w)

-- no whole number costs the axis less
abbrev pub MeanBest : Type 0
MeanBest = (s w m : ℤ) → pos 0 <ℤ w → Rounded s w m → (x : ℤ) → axis_cost s w m ≤ℤ axis_cost s w x

-- and where another costs the same, it is the next
abbrev pub MeanLower : Type 0
MeanLower = (s w m : ℤ) → pos 0 <ℤ w → Rounded s w m → (x : ℤ) → axis_cost s w x ≡ axis_cost s w m → (x ≢ m) → x ≡ m +ℤ pos 1

-- ---- the outcome

-- a round has an outcome
abbrev pub Moves : Type 0
Moves = (es : List Entry) (cs : List Place) → Moved es cs (move es cs)

-- and no other
abbrev pub MovesOnly : Type 0
MovesOnly = (es : List Entry) (cs cs' : List Place) → Moved es cs cs' → cs' ≡ move es cs

-- ---- entries that hold the same places as often, in any order and however they are split

abbrev pub SameWeights : Type 0
SameWeights = (es es' : List Entry) → IsPermutation (unfolded es) (unfolded es') → (cs : List Place) (k : ℕ) → weight es cs k ≡ weight es' cs k

abbrev pub SameSums : Type 0
SameSums = (es es' : List Entry) → IsPermutation (unfolded es) (unfolded es') → (cs : List Place) (k axis : ℕ) → sum es cs k axis ≡ sum es' cs k axis

abbrev pub SameDistortion : Type 0
SameDistortion = (es es' : List Entry) → IsPermutation (unfolded es) (unfolded es') → (cs : List Place) → distortion es cs ≡ distortion es' cs

abbrev pub SameMoves : Type 0
SameMoves = (es es' : List Entry) → IsPermutation (unfolded es) (unfolded es') → (cs : List Place) → move es cs ≡ move es' cs

abbrev pub SameSettled : Type 0
SameSettled = (es es' : List Entry) → IsPermutation (unfolded es) (unfolded es') → (n : ℕ) (cs : List Place) → settled_centers es n cs ≡ settled_centers es' n cs

-- entries of one place belong to one center
abbrev pub SameChoices : Type 0
SameChoices = (cs : List Place) (e e' : Entry) → e.place ≡ e'.place → choose cs e.place ≡ choose cs e'.place
