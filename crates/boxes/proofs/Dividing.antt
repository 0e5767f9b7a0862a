-- A table as one of its boxes is cut: first the run of the box is parted, then the box gets its children.
use Rattle.std.proofs.Common.{◌≡◌, ℕ, ◌+◌, ◌-◌, ◌*◌, ◌<◌, ◌≤◌, List, length, get_or, take, set, None, sym, refl, ap, ◌∙◌, subst, arith}
use Rattle.std.specs.List.{between, All}
use Rattle.std.proofs.lemmas.List.{take_more_set}
use Rattle.std.proofs.lemmas.List.Edits.{length-between, get_or-between}
use Rattle.std.proofs.lemmas.Slice.{between-put_mid}
use borrow.Rule.Slice.PartMut.{put_mid}
use Rattle.points.specs.declared.point.Point.{Ghosts as PointGhosts}
use Rattle.points.specs.declared.record.Record.{Ghosts as RecordGhosts}
use Rattle.boxes.specs.declared.cut.Cut.{Cut}
use Rattle.boxes.specs.declared.node.BoxNode.{BoxNode}
use Rattle.boxes.specs.declared.table.BoxTable.{BoxTable}
use Rattle.boxes.specs.Agreement.{Agrees}
use Rattle.boxes.specs.Faults.{Accepted}
use Rattle.boxes.specs.Regions.{boxes_after}
use Rattle.boxes.specs.Runs.{picked, under, Parted, Reordered, lower}
use Rattle.boxes.specs.Standing.{cuts_of, entries_of}
use Rattle.boxes.specs.Table.{node_at, Known, Grown}
use Rattle.boxes.specs.Tells.{BoundsOf, TalliesOf}
use Rattle.boxes.proofs.Cuttings.{agrees_reordered, agrees_cut}
use Rattle.boxes.proofs.Orders.{reordered_mid, reordered_known, run_known}
use Rattle.boxes.proofs.Partings.{parted_count}
use Rattle.boxes.proofs.Sides.{stood_of, uncut_of, room_of, lower_of, upper_of}
use Rattle.boxes.proofs.Tables.{count_is, has_cuts, entries_many, order_long, stands}

module _ {R : Type 0} {kindP : PointGhosts R} {kindR : RecordGhosts R} (t : BoxTable R kindR kindP) (axes : ℕ) (cut : Cut) (ok : Accepted axes (entries_of t) (cuts_of t) cut)
    (ys : List ℕ) (k : ℕ) (as_many : length ys ≡ length (between (node_at t.nodes cut.parent).from (node_at t.nodes cut.parent).to t.order))
    (parted : Parted (entries_of t) cut (between (node_at t.nodes cut.parent).from (node_at t.nodes cut.parent).to t.order) ys k (length (between (node_at t.nodes cut.parent).from (node_at t.nodes cut.parent).to t.order))) where
  abbrev node : BoxNode
  node = node_at t.nodes cut.parent

  -- the order with the run of the box parted
  abbrev pub order : List ℕ
  order = put_mid node.from (node.to - node.from) t.order ys

  there : cut.parent < boxes_after (cuts_of t)
  there = stood_of t axes cut ok

  stood : cut.parent < 2 * t.count + 1
  stood = omega (arith, there, count_is t)

  up : node.from ≤ node.to
  up = omega (arith, (t.runs cut.parent stood).0)

  end : node.to ≤ length t.order
  end = omega (arith, (t.runs cut.parent stood).1, t.recording.few, t.long)

  end_entries : node.to ≤ length (entries_of t)
  end_entries = omega (arith, (t.runs cut.parent stood).1, entries_many t)

  run_length : length (between node.from node.to t.order) ≡ node.to - node.from
  run_length = length-between t.order node.from node.to end

  pub reordered : Reordered t.order order node.from node.to
  reordered = reordered_mid t.order ys node.from node.to up end as_many parted.shuffled

  pub known : Known order (length t.recording.records.now)
  known = reordered_known t.order order node.from node.to up end reordered _ (t.runs cut.parent stood).1 t.known

  pub agrees_parted : Agrees (entries_of t) (cuts_of t) t.nodes order
  agrees_parted = agrees_reordered (entries_of t) (cuts_of t) t.nodes t.order order (stands t) cut.parent node.from node.to there (uncut_of t axes cut ok) refl refl up end_entries (order_long t) reordered

  -- what stands in the run now
  at : (j : ℕ) → node.from ≤ j → j < node.to → get_or order j 0 ≡ get_or ys (j - node.from) 0
  at j l h =
      let e : node.from + (j - node.from) ≡ j = omega arith in
      ap (λ i. get_or order i 0) (sym e)
      ∙ sym (get_or-between order node.from node.to (j - node.from) 0 (omega arith))
      ∙ ap (λ xs. get_or xs (j - node.from) 0) (between-put_mid node.from (node.to - node.from) t.order ys node.to (omega (arith, up, end)) (as_many ∙ run_length))

  -- how many lie below the cut
  counted : k ≡ lower (entries_of t) cut node t.order
  counted = parted_count (entries_of t) cut (between node.from node.to t.order) ys k parted

  pub some_below : 0 < k
  some_below = omega (arith, counted, lower_of t axes cut ok)

  pub some_above : k < node.to - node.from
  some_above = omega (arith, counted, upper_of t axes cut ok)

  -- a part of the run
  pub part_length : (x y : ℕ) → y ≤ node.to → length (between x y order) ≡ y - x
  part_length x y l = length-between order x y (omega (arith, end, reordered.long))

  pub part_known : (x y : ℕ) → y ≤ node.to → All (λ i. i < length t.recording.records.now) (between x y order)
  part_known x y l = run_known order _ x y known (omega (arith, (t.runs cut.parent stood).1)) (omega (arith, t.recording.few, t.long, reordered.long))

  module _ (ns : List BoxNode) (first second : BoxNode) (grown : Grown t.nodes t.count cut.parent first second ns)
      (f1 : first.from ≡ node.from) (t1 : first.to ≡ node.from + k) (f2 : second.from ≡ node.from + k) (t2 : second.to ≡ node.to) (u1 : first.cut ≡ None) (u2 : second.cut ≡ None)
      (b1 : BoundsOf (picked (entries_of t) (between node.from (node.from + k) order)) first.bounds) (y1 : TalliesOf (picked (entries_of t) (between node.from (node.from + k) order)) first.tallies)
      (b2 : BoundsOf (picked (entries_of t) (between (node.from + k) node.to order)) second.bounds) (y2 : TalliesOf (picked (entries_of t) (between (node.from + k) node.to order)) second.tallies) where
    pub agrees_divided : Agrees (entries_of t) (take (t.count + 1) (set t.cuts t.count cut)) ns order
    agrees_divided =
        subst (λ cs. Agrees (entries_of t) cs ns order) (sym (take_more_set t.cuts t.count cut (omega (arith, t.logged, room_of t axes cut ok))))
        (agrees_cut (entries_of t) (cuts_of t) t.nodes ns order cut node.from node.to (node.from + k) first second agrees_parted there (uncut_of t axes cut ok) refl refl (omega arith) (omega (arith, up, some_above)) end_entries (omega (arith, order_long t, reordered.long))
        (λ j l h. ap (under (entries_of t) cut) (at j l (omega (arith, some_above))) ∙ parted.low (j - node.from) (omega arith))
        (λ j l h. ap (under (entries_of t) cut) (at j (omega arith) h) ∙ parted.high (j - node.from) (omega arith) (omega (arith, run_length)))
        (subst (λ m. Grown t.nodes m cut.parent first second ns) (sym (count_is t)) grown)
        f1 t1 f2 t2 u1 u2 b1 y1 b2 y2 (has_cuts t))
