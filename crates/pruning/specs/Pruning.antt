-- Candidates of a box: which of them leads, which are left, and what they are good for.
use Rattle.std.specs.Prelude.{◌≡◌, ℕ, ◌<◌, Bool, not, ◌||◌, ◌⊎◌, List, length, ◌<ℤ◌, filter, ◌==◌, ◌≢◌, slice_index}
use Rattle.std.specs.List.{ContainsAt as Has, AllByRecursion}
use Rattle.numbers.specs.Sums.{mapped_from}
use Rattle.grouping.specs.Boxes.{Inside, near}
use Rattle.grouping.specs.Choice.{center, choose}
use Rattle.grouping.specs.Distance.{Place}
use Rattle.pruning.specs.Rules.{Test, Safe}

-- the numbers of all centers
abbrev pub numbers_of : List Place → List ℕ
numbers_of cs = mapped_from (λ k c. k) 0 cs

-- candidates: numbers of centers, at least one, each above the one before
pub record Fit (cs : List Place) (ks : List ℕ) : Type 0 where
  pub some : 0 < length ks
  pub known : AllByRecursion (λ k. k < length cs) ks
  pub rises : (i j : ℕ) → i < j → j < length ks → slice_index ks i < slice_index ks j

-- center k is nearer to the box than center j, or equally near and of the lower number
abbrev pub Nearer : Place → Place → List Place → ℕ → ℕ → Type 0
Nearer los his cs k j =
    (near los his (center cs k) <ℤ near los his (center cs j)) ⊎ ((near los his (center cs k) ≡ near los his (center cs j)) × (k < j))

-- of these candidates l is nearest to the box
pub record Leader (los his : Place) (cs : List Place) (ks : List ℕ) (l : ℕ) : Type 0 where
  pub one_of : Has ks l
  pub nearest : (j : ℕ) → Has ks j → (j ≢ l) → Nearer los his cs l j

-- whether the leader l leaves the candidate k: it never prunes itself
abbrev pub keeps : Test → Place → Place → List Place → ℕ → ℕ → Bool
keeps prunes los his cs l k = k == l || not (prunes los his l (center cs l) k (center cs k))

-- of the candidates ks those that their leader leaves are ls
pub record Left (prunes : Test) (los his : Place) (cs : List Place) (ks ls : List ℕ) : Type 0 where
  pub leader : ℕ
  pub leads : Leader los his cs ks leader
  pub left : ls ≡ filter (keeps prunes los his cs leader) ks

-- every place of the box belongs to one of the candidates
abbrev pub Covers : Place → Place → List Place → List ℕ → Type 0
Covers los his cs ks = (p : Place) → Inside los his p → Has ks (choose cs p)

-- the candidates with which a box is reached: all centers at first, pruned by safe tests at this box and at boxes around it
pub data Reached (cs : List Place) : Place → Place → List ℕ → Type 0 where
  from_all : {los his : Place} → Reached cs los his (numbers_of cs)
  pruned : {los his : Place} {ks ls : List ℕ} (prunes : Test) → Safe prunes → Left prunes los his cs ks ls → Reached cs los his ks → Reached cs los his ls
  inner : {los his los' his' : Place} {ks : List ℕ} → ((p : Place) → Inside los' his' p → Inside los his p) → Reached cs los his ks → Reached cs los' his' ks

-- at every place of a box, what the place belongs to is left
abbrev pub PrunesNone : Type 0
PrunesNone = (prunes : Test) → Safe prunes → (los his : Place) (cs : List Place) (ks ls : List ℕ) →
    AllByRecursion (λ c. length c ≡ length los) cs → AllByRecursion (λ k. k < length cs) ks → Left prunes los his cs ks ls →
    (p : Place) → Inside los his p → Has ks (choose cs p) → Has ls (choose cs p)

-- candidates that a box is reached with cover it
abbrev pub ReachedCovers : Type 0
ReachedCovers = (los his : Place) (cs : List Place) (ks : List ℕ) →
    0 < length cs → AllByRecursion (λ c. length c ≡ length los) cs → Reached cs los his ks → Covers los his cs ks

-- the leader of a box that has a place is the nearest of all centers, by whatever safe rules it was reached
abbrev pub LeadsAll : Type 0
LeadsAll = (los his : Place) (cs : List Place) (ks : List ℕ) (l : ℕ) →
    AllByRecursion (λ c. length c ≡ length los) cs → Reached cs los his ks →
    (p : Place) → Inside los his p → Leader los his cs ks l → Leader los his cs (numbers_of cs) l
