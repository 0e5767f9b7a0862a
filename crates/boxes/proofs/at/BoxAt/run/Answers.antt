use Rattle.std.proofs.Common.{◌<◌, ◌≤◌, length, sym, subst, arith}
use Rattle.std.specs.List.{between, All}
use Rattle.std.proofs.lemmas.List.Edits.{length-between}
use Rattle.boxes.proofs.Orders.{run_known}
use Rattle.boxes.proofs.at.BoxAt.run.Goals as goal

pub invariant_of-result : goal.invariant_of-result
invariant_of-result g c =
    let t = c.args.self.table.now in
    let n = c.node-node.result in
    let r = subst (λ m. (m.from < m.to) × (m.to ≤ length t.recording.records.now)) (sym c.node-node.ensures) (t.runs c.args.self.number c.args.self.there) in
    let long = length-between t.order n.from n.to (omega (arith, r.1, t.recording.few, t.long)) in
    record {
      known = subst (λ rs. All (λ i. i < length rs) (between n.from n.to t.order)) (sym c.records.ensures) (run_known t.order _ n.from n.to t.known r.1 (omega (arith, t.recording.few, t.long)));
      some = omega (arith, long, r.0);
      few = omega (arith, long, r.1, t.recording.few);
    }
