-- When the arrays of a table are those of its cuts over its entries.
use Rattle.std.specs.Prelude.{◌≡◌, ℕ, ◌<◌, Bool, ◌&&◌, List, length, take, Some, None, nat_le, nat_lt, slice_index}
use Rattle.std.specs.List.{range_with_len}
use Rattle.std.specs.List.Sorted.{IsPermutation}
use Rattle.points.specs.Entries.{Entry}
use Rattle.boxes.specs.declared.cut.Cut.{Cut}
use Rattle.boxes.specs.declared.node.BoxNode.{BoxNode}
use Rattle.boxes.specs.Regions.{boxes_after, holds, contents, cut_at, Uncut, Logged}
use Rattle.boxes.specs.Runs.{entry_at}
use Rattle.boxes.specs.Table.{node_at}
use Rattle.boxes.specs.Tells.{BoundsOf, TalliesOf}

-- place j of the order is in the run of the box
abbrev pub in_run : BoxNode → ℕ → Bool
in_run n j = nat_le n.from j && nat_lt j n.to

-- the boxes, as these arrays have them, are those that the cuts give over the entries
pub record Agrees (es : List Entry) (cuts : List Cut) (ns : List BoxNode) (order : List ℕ) : Type 0 where
  pub log : Logged cuts
  pub cut_by : (b i : ℕ) → b < boxes_after cuts → (node_at ns b).cut ≡ Some i → (cut_at cuts i).parent ≡ b
  pub uncut : (b : ℕ) → b < boxes_after cuts → (node_at ns b).cut ≡ None → Uncut cuts b
  pub all_there : IsPermutation (range_with_len 0 (length es)) (take (length es) order)
  pub located : (b j : ℕ) → b < boxes_after cuts → j < length es → holds cuts b (entry_at es (slice_index order j)).place ≡ in_run (node_at ns b) j
  pub bounds : (b : ℕ) → b < boxes_after cuts → BoundsOf (contents cuts b es) (node_at ns b).bounds
  pub tallies : (b : ℕ) → b < boxes_after cuts → TalliesOf (contents cuts b es) (node_at ns b).tallies
