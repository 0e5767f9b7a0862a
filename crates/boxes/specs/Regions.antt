-- Which places each box has. A table means no more than its list of cuts: the cut of number i made the boxes 1 + 2i and 2 + 2i.
use Rattle.std.specs.Prelude.{◌≡◌, ℕ, ◌+◌, ◌*◌, ◌<◌, Bool, true, false, not, ◌&&◌, List, [], ◌∷◌, ◌++◌, length, ℤ, pos, fold, filter, ◌≢◌, int_lt, slice_index_or}
use Rattle.points.specs.Entries.{Entry}
use Rattle.grouping.specs.Distance.{Place, number}
use Rattle.boxes.specs.declared.cut.Cut.{Cut}

-- some places, by a test
abbrev pub Region : Type 0
Region = Place → Bool

-- box b of a list of regions; past the last, no place at all
abbrev pub region_at : List Region → ℕ → Region
region_at rs b = slice_index_or rs b (λ p. false)

-- the places below the value of the cut
abbrev pub below : Cut → Region
below c p = int_lt (number p c.axis) c.value

-- two boxes more: the places of the cut box that are below the value, and those that are not
abbrev pub divided : List Region → Cut → List Region
divided rs c = rs ++ (λ p. region_at rs c.parent p && below c p) ∷ (λ p. region_at rs c.parent p && not (below c p)) ∷ []

-- the places of every box, by number: box 0 has all places, and each cut adds two boxes
unfoldable pub regions : List Cut → List Region
regions cuts = fold divided ((λ p. true) ∷ []) cuts

-- how many boxes there are
abbrev pub boxes_after : List Cut → ℕ
boxes_after cuts = 2 * length cuts + 1

-- the place lies in box b
unfoldable pub holds : List Cut → ℕ → Place → Bool
holds cuts b p = region_at (regions cuts) b p

-- the entries of box b
abbrev pub contents : List Cut → ℕ → List Entry → List Entry
contents cuts b es = filter (λ e. holds cuts b e.place) es

-- the cut of a box at an axis and a value
abbrev pub cut_by : ℕ → ℕ → ℤ → Cut
cut_by parent axis value = record { parent = parent; axis = axis; value = value }

-- the cut of number i
abbrev pub cut_at : List Cut → ℕ → Cut
cut_at cuts i = slice_index_or cuts i (record { parent = 0; axis = 0; value = pos 0 })

-- no cut is of box b
abbrev pub Uncut : List Cut → ℕ → Type 0
Uncut cuts b = (i : ℕ) → i < length cuts → (cut_at cuts i).parent ≢ b

-- cuts that can have been made one after the other: each of a box that stood, and of none twice
pub record Logged (cuts : List Cut) : Type 0 where
  pub stood : (i : ℕ) → i < length cuts → (cut_at cuts i).parent < 2 * i + 1
  pub once : (i j : ℕ) → i < j → j < length cuts → (cut_at cuts i).parent ≢ (cut_at cuts j).parent

-- b is the smallest box of the place: the uncut one that has it
pub record Smallest (cuts : List Cut) (p : Place) (b : ℕ) : Type 0 where
  pub there : b < boxes_after cuts
  pub uncut : Uncut cuts b
  pub has : holds cuts b p ≡ true

-- c is a cut of box b, and made the boxes first and second
pub record SplitInto (cuts : List Cut) (b : ℕ) (c : Cut) (first second : ℕ) : Type 0 where
  pub number : ℕ
  pub made : number < length cuts
  pub is : c ≡ cut_at cuts number
  pub of : (cut_at cuts number).parent ≡ b
  pub first_is : first ≡ 2 * number + 1
  pub second_is : second ≡ 2 * number + 2
  pub above : b < first
