use Rattle.std.proofs.Common.{◌≡◌, ◌-◌, ◌<◌, ◌≤◌, length, take, refl, sym, ap, ◌∙◌, subst, arith}
use Rattle.std.proofs.lemmas.List.{get_or-take, get_or_default, length-map, length-take-le}
use Rattle.points.specs.Entries.{entry, entries}
use Rattle.boxes.specs.Runs.{picked}
use Rattle.boxes.specs.Tells.{BoundsOf, TalliesOf}
use Rattle.boxes.proofs.Starts.{in_order, agrees_new}
use Rattle.boxes.proofs.table.BoxTable.new.Goals as goal

pub invariant_of-result-clause-stands : goal.invariant_of-result-clause-stands
invariant_of-result-clause-stands g c =
    let rs = c.records-records.result.now in
    let same = c.records-records.ensures in
    let es = entries g.R.Point g.R.Record c.args.recording.records.now in
    let order = c.numbers-order.result in
    let few : length rs ≤ 4096 = subst (λ xs. length xs ≤ 4096) (sym same) c.args.recording.few in
    let n : length es ≡ length rs = length-map c.args.recording.records.now (λ r. entry g.R.Point g.R.Record r) ∙ ap length (sym same) in
    let long = length-take-le (length rs - 0) order (omega (arith, c.numbers-order.ensures.long)) in
    let front : take (length rs - 0) order ≡ take (length es) order = ap (λ m. take m order) (omega arith) in
    let node = c.node.result in
    ∣ agrees_new es _ order _ refl (in_order order c.numbers-order.ensures.long c.numbers-order.ensures.each (length es) (omega arith)) c.node.ensures.from (omega (arith, c.node.ensures.to, long, n)) c.node.ensures.cut
    (subst (λ xs. BoundsOf (picked (entries g.R.Point g.R.Record xs) (take (length es) order)) node.bounds) same (subst (λ ns. BoundsOf (picked (entries g.R.Point g.R.Record rs) ns) node.bounds) front c.node.ensures.bounds))
    (subst (λ xs. TalliesOf (picked (entries g.R.Point g.R.Record xs) (take (length es) order)) node.tallies) same (subst (λ ns. TalliesOf (picked (entries g.R.Point g.R.Record rs) ns) node.tallies) front c.node.ensures.tallies)) ∣₁

pub invariant_of-all : goal.invariant_of-all
invariant_of-all g c =
    let rs = c.records-records.result.now in
    let order = c.numbers-order.result in
    let e = c.numbers-order.ensures in
    let few : length rs ≤ 4096 = subst (λ xs. length xs ≤ 4096) (sym c.records-records.ensures) c.args.recording.few in
    let some : 0 < length rs = subst (λ xs. 0 < length xs) (sym c.records-records.ensures) c.args.recording.some in
    let long = length-take-le (length rs - 0) order (omega (arith, e.long)) in
    record {
      known = λ k d l.
          let l' : k < length rs - 0 = omega (arith, long) in
          omega (arith, get_or-take (length rs - 0) order k d l', get_or_default order k d 0 (omega (arith, e.long)), e.each k (omega arith));
      some = omega (arith, long);
      few = omega (arith, long);
    }
