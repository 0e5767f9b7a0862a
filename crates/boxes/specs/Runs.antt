-- The records of a run of record numbers.
use Rattle.std.specs.Prelude.{◌≡◌, ℕ, ◌<◌, ◌≤◌, Bool, true, false, List, [], map, length, take, drop, filter, slice_index, slice_index_or}
use Rattle.std.specs.List.{between}
use Rattle.std.specs.List.Sorted.{IsPermutation}
use Rattle.points.specs.Entries.{Entry}
use Rattle.boxes.specs.declared.cut.Cut.{Cut}
use Rattle.boxes.specs.declared.node.BoxNode.{BoxNode}
use Rattle.boxes.specs.Regions.{below}

-- what stands past the last entry
abbrev pub nothing : Entry
nothing = record { place = []; hold = 0 }

-- the entry of number i
abbrev pub entry_at : List Entry → ℕ → Entry
entry_at es i = slice_index_or es i nothing

-- the entries of these numbers
abbrev pub picked : List Entry → List ℕ → List Entry
picked es ns = map (λ i. entry_at es i) ns

-- the entry of number i lies below the value of the cut
abbrev pub under : List Entry → Cut → ℕ → Bool
under es c i = below c (entry_at es i).place

-- ms is ns in another order, of whose first i numbers the first k lie below the cut and the others do not
pub record Parted (es : List Entry) (c : Cut) (ns ms : List ℕ) (k i : ℕ) : Type 0 where
  pub shuffled : IsPermutation ns ms
  pub as_many : length ms ≡ length ns
  pub split : k ≤ i
  pub low : (j : ℕ) → j < k → under es c (slice_index ms j) ≡ true
  pub high : (j : ℕ) → k ≤ j → j < i → under es c (slice_index ms j) ≡ false

-- two orders that differ only from one place to another
pub record Reordered (order order' : List ℕ) (from to : ℕ) : Type 0 where
  pub long : length order' ≡ length order
  pub before : take from order' ≡ take from order
  pub after : drop to order' ≡ drop to order
  pub shuffled : IsPermutation (between from to order) (between from to order')

-- how many entries of the box's run lie below the value of the cut
abbrev pub lower : List Entry → Cut → BoxNode → List ℕ → ℕ
lower es c n order = length (filter (under es c) (between n.from n.to order))
