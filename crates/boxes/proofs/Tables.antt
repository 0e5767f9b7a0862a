-- What the fields of a table say of its cuts and its entries.
use Rattle.std.proofs.Common.{◌≡◌, ℕ, ◌+◌, ◌*◌, ◌<◌, ◌≤◌, length, sym, subst, arith}
use Rattle.std.proofs.lemmas.List.{length-map, length-take-le}
use Rattle.points.specs.declared.point.Point.{Ghosts as PointGhosts}
use Rattle.points.specs.declared.record.Record.{Ghosts as RecordGhosts}
use Rattle.points.specs.Entries.{entry}
use Rattle.boxes.specs.declared.table.BoxTable.{BoxTable}
use Rattle.boxes.specs.Regions.{boxes_after}
use Rattle.boxes.specs.Standing.{cuts_of, entries_of, Stands}
use Rattle.boxes.specs.Table.{HasRuns, HasCuts}
use Rattle.boxes.proofs.Certain.{agrees_known}

module _ {R : Type 0} {kindP : PointGhosts R} {kindR : RecordGhosts R} (t : BoxTable R kindR kindP) where
  pub count_is : length (cuts_of t) ≡ t.count
  count_is = length-take-le t.count t.cuts (omega (arith, t.few, t.logged))

  -- a box that the table has is one of its cuts
  pub box_there : (b : ℕ) → b < 2 * t.count + 1 → b < boxes_after (cuts_of t)
  box_there b l = omega (arith, l, count_is)

  pub has_cuts : HasCuts t.nodes (length (cuts_of t))
  has_cuts = subst (HasCuts t.nodes) (sym count_is) t.links

  pub entries_many : length (entries_of t) ≡ length t.recording.records.now
  entries_many = length-map t.recording.records.now (λ x. entry kindP kindR x)

  pub order_long : length (entries_of t) ≤ length t.order
  order_long = omega (arith, entries_many, t.recording.few, t.long)

  pub has_runs : HasRuns t.nodes (length (cuts_of t)) (length (entries_of t))
  has_runs = subst (λ n. HasRuns t.nodes n (length (entries_of t))) (sym count_is) (subst (HasRuns t.nodes t.count) (sym entries_many) t.runs)

  pub stands : Stands t
  stands = agrees_known (entries_of t) (cuts_of t) t.nodes t.order t.stands
