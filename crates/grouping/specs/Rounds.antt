-- Rounds: every center with weight goes to the rounded mean of its group, until a round moves nothing.
use Rattle.std.specs.Prelude.{◌≡◌, ℕ, suc, ◌<◌, Bool, true, false, List, [], ◌∷◌, length, pos, ◌≢◌}
use Rattle.points.specs.Entries.{Entry}
use Rattle.grouping.specs.Distance.{Place, number}
use Rattle.grouping.specs.Choice.{center}
use Rattle.grouping.specs.Totals.{weight, sum}
use Rattle.grouping.specs.Rounding.{Rounded}

-- one round: a center without weight stays, and any other goes to the rounded mean of its group on each axis
pub record Moved (es : List Entry) (cs cs' : List Place) : Type 0 where
  pub as_many : length cs' ≡ length cs
  pub as_long : (k : ℕ) → k < length cs → length (center cs' k) ≡ length (center cs k)
  pub stays : (k : ℕ) → k < length cs → weight es cs k ≡ pos 0 → center cs' k ≡ center cs k
  pub goes : (k : ℕ) → k < length cs → (weight es cs k ≢ pos 0) → (axis : ℕ) → axis < length (center cs k) →
      Rounded (sum es cs k axis) (weight es cs k) (number (center cs' k) axis)

-- n of the centers stand elsewhere in the second list than in the first
pub data Changes : List Place → List Place → ℕ → Type 0 where
  none : Changes [] [] 0
  same : {c d : Place} {cs ds : List Place} {n : ℕ} → d ≡ c → Changes cs ds n → Changes (c ∷ cs) (d ∷ ds) n
  other : {c d : Place} {cs ds : List Place} {n : ℕ} → (d ≢ c) → Changes cs ds n → Changes (c ∷ cs) (d ∷ ds) (suc n)

-- a chain of rounds, how many they are, and whether the last of them moved nothing; no round follows one that moved nothing
pub data Rounds (es : List Entry) : List Place → ℕ → Bool → List Place → Type 0 where
  start : {cs : List Place} → Rounds es cs 0 false cs
  last : {cs cs' : List Place} → Moved es cs cs' → cs' ≡ cs → Rounds es cs 1 true cs'
  more : {cs cs' ds : List Place} {n : ℕ} {settled : Bool} →
      Moved es cs cs' → (cs' ≢ cs) → Rounds es cs' n settled ds → Rounds es cs (suc n) settled ds
