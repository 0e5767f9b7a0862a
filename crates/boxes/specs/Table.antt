-- The arrays of the table: what makes every access to them safe.
use Rattle.std.specs.Prelude.{◌≡◌, ℕ, ◌+◌, ◌*◌, ◌<◌, ◌≤◌, List, [], pos, Some, None, ◌≢◌, slice_index, slice_index_or}
use Rattle.boxes.specs.declared.node.BoxNode.{BoxNode}

-- an empty box, which stands for those past the last
abbrev pub blank : BoxNode
blank =
    record {
      bounds = record { least = record { at = [] }; greatest = record { at = [] } };
      tallies = record { weight = pos 0; sums = []; squares = pos 0 };
      from = 0;
      to = 0;
      cut = None;
    }

-- the box of number b
abbrev pub node_at : List BoxNode → ℕ → BoxNode
node_at ns b = slice_index_or ns b blank

-- every number of the first n in the order is that of one of n records
abbrev pub Known : List ℕ → ℕ → Type 0
Known order n = (k : ℕ) → k < n → slice_index order k < n

-- after so many cuts, every box has a run of records in the order of n
abbrev pub HasRuns : List BoxNode → ℕ → ℕ → Type 0
HasRuns ns count n = (b : ℕ) → b < 2 * count + 1 → ((node_at ns b).from < (node_at ns b).to) × ((node_at ns b).to ≤ n)

-- a box that is cut was cut by one of them
abbrev pub HasCuts : List BoxNode → ℕ → Type 0
HasCuts ns count = (b i : ℕ) → b < 2 * count + 1 → (node_at ns b).cut ≡ Some i → i < count

-- and its children have greater numbers
abbrev pub Rises : List BoxNode → ℕ → Type 0
Rises ns count = (b i : ℕ) → b < 2 * count + 1 → (node_at ns b).cut ≡ Some i → b < 2 * i + 1

-- the box, cut by the cut of number i
abbrev pub with_cut : BoxNode → ℕ → BoxNode
with_cut n i = record { bounds = n.bounds; tallies = n.tallies; from = n.from; to = n.to; cut = Some i }

-- box b is cut, and has got two children; all other boxes are as they were
pub record Grown (ns : List BoxNode) (count b : ℕ) (first second : BoxNode) (ns' : List BoxNode) : Type 0 where
  pub others : (j : ℕ) → j < 2 * count + 1 → (j ≢ b) → node_at ns' j ≡ node_at ns j
  pub parent : node_at ns' b ≡ with_cut (node_at ns b) count
  pub first_is : node_at ns' (2 * count + 1) ≡ first
  pub second_is : node_at ns' (2 * count + 2) ≡ second
