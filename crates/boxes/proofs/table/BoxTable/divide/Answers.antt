use Rattle.std.proofs.Common.{◌≡◌, ◌+◌, ◌*◌, ◌<◌, ◌≤◌, length, set, sym, refl, ◌∙◌, subst, arith}
use Rattle.std.specs.List.{between, All}
use Rattle.std.proofs.lemmas.List.{length-set}
use Rattle.points.specs.Entries.{entries}
use Rattle.boxes.specs.Runs.{picked, Parted}
use Rattle.boxes.specs.Standing.{run_of}
use Rattle.boxes.specs.Table.{node_at, with_cut}
use Rattle.boxes.specs.Tells.{BoundsOf, TalliesOf}
use Rattle.boxes.proofs.Dividing.{order, known, reordered, some_below, some_above, part_length, part_known, agrees_parted, agrees_divided}
use Rattle.boxes.proofs.Growth.{grown_by, runs_grown, cuts_grown, rises_grown}
use Rattle.boxes.proofs.table.BoxTable.divide.Goals as goal

pub invariant_of-self : goal.invariant_of-self
invariant_of-self g c =
    let t = c.args.self.now in
    let axes = g.R.Point.AXES in
    let cut = c.args.cut in
    let ys = c.part.new.run in
    let k = c.part.result in
    let ok = c.requires.accepted in
    let old = run_of t cut.parent in
    let p = subst (λ rs. Parted (entries g.R.Point g.R.Record rs) cut old ys k (length old)) c.records-records.ensures c.part.ensures in
    record {
      wide = t.wide;
      logged = t.logged;
      long = (reordered t axes cut ok ys k c.part.auto.run p).long ∙ t.long;
      few = t.few;
      known = known t axes cut ok ys k c.part.auto.run p;
      runs = t.runs;
      links = t.links;
      rising = t.rising;
      stands = ∣ agrees_parted t axes cut ok ys k c.part.auto.run p ∣₁;
    }

pub invariant_of-first : goal.invariant_of-first
invariant_of-first g c =
    let t = c.args.self.now in
    let axes = g.R.Point.AXES in
    let cut = c.args.cut in
    let n = node_at t.nodes cut.parent in
    let ys = c.part.new.run in
    let k = c.part.result in
    let ok = c.requires.accepted in
    let old = run_of t cut.parent in
    let p = subst (λ rs. Parted (entries g.R.Point g.R.Record rs) cut old ys k (length old)) c.records-records.ensures c.part.ensures in
    let some = some_below t axes cut ok ys k c.part.auto.run p in
    let more = some_above t axes cut ok ys k c.part.auto.run p in
    let r = t.runs cut.parent c.requires.stood in
    let end : n.from + k ≤ n.to = omega (arith, more) in
    let long = part_length t axes cut ok ys k c.part.auto.run p n.from (n.from + k) end in
    record {
      known = subst (λ rs. All (λ i. i < length rs) (between n.from (n.from + k) (order t axes cut ok ys k c.part.auto.run p))) (sym c.records-records.ensures) (part_known t axes cut ok ys k c.part.auto.run p n.from (n.from + k) end);
      some = omega (arith, long, some);
      few = omega (arith, long, r.1, t.recording.few, end);
    }

pub invariant_of-second : goal.invariant_of-second
invariant_of-second g c =
    let t = c.args.self.now in
    let axes = g.R.Point.AXES in
    let cut = c.args.cut in
    let n = node_at t.nodes cut.parent in
    let ys = c.part.new.run in
    let k = c.part.result in
    let ok = c.requires.accepted in
    let old = run_of t cut.parent in
    let p = subst (λ rs. Parted (entries g.R.Point g.R.Record rs) cut old ys k (length old)) c.records-records.ensures c.part.ensures in
    let more = some_above t axes cut ok ys k c.part.auto.run p in
    let r = t.runs cut.parent c.requires.stood in
    let end : n.to ≤ n.to = omega arith in
    let long = part_length t axes cut ok ys k c.part.auto.run p (n.from + k) n.to end in
    record {
      known = subst (λ rs. All (λ i. i < length rs) (between (n.from + k) n.to (order t axes cut ok ys k c.part.auto.run p))) (sym c.records-records.ensures) (part_known t axes cut ok ys k c.part.auto.run p (n.from + k) n.to end);
      some = omega (arith, long, more);
      few = omega (arith, long, r.1, t.recording.few);
    }

pub invariant_of-self-2 : goal.invariant_of-self-2
invariant_of-self-2 g c =
    let t = c.args.self.now in
    let axes = g.R.Point.AXES in
    let i = t.count in
    let cut = c.args.cut in
    let n = node_at t.nodes cut.parent in
    let ys = c.part.new.run in
    let k = c.part.result in
    let ok = c.requires.accepted in
    let old = run_of t cut.parent in
    let p = subst (λ rs. Parted (entries g.R.Point g.R.Record rs) cut old ys k (length old)) c.records-records.ensures c.part.ensures in
    let some = some_below t axes cut ok ys k c.part.auto.run p in
    let more = some_above t axes cut ok ys k c.part.auto.run p in
    let new = order t axes cut ok ys k c.part.auto.run p in
    let end : n.from + k ≤ n.to = omega (arith, more) in
    let first_long = part_length t axes cut ok ys k c.part.auto.run p n.from (n.from + k) end in
    let second_long = part_length t axes cut ok ys k c.part.auto.run p (n.from + k) n.to (omega arith) in
    let r = t.runs cut.parent c.requires.stood in
    let first = c.node-first.result in
    let second = c.node-second.result in
    let one = c.node-first.ensures in
    let two = c.node-second.ensures in
    let first_to : first.to ≡ n.from + k = omega (arith, one.to, first_long) in
    let second_to : second.to ≡ n.to = omega (arith, two.to, second_long, more) in
    let xs = set t.nodes cut.parent (with_cut n i) in
    let zs = set xs (2 * i + 1) first in
    let ns = set zs (2 * i + 2) second in
    let grown = grown_by t.nodes i cut.parent (with_cut n i) first second t.wide c.requires.room c.requires.stood refl in
    record {
      wide = length-set zs (2 * i + 2) second ∙ length-set xs (2 * i + 1) first ∙ length-set t.nodes cut.parent (with_cut n i) ∙ t.wide;
      logged = length-set t.cuts i cut ∙ t.logged;
      long = (reordered t axes cut ok ys k c.part.auto.run p).long ∙ t.long;
      few = omega (arith, c.requires.room);
      known = known t axes cut ok ys k c.part.auto.run p;
      runs = runs_grown t.nodes i cut.parent first second ns grown _ c.requires.stood t.runs (omega (arith, one.from, first_to, some)) (omega (arith, first_to, end, r.1)) (omega (arith, two.from, second_to, more)) (omega (arith, second_to, r.1));
      links = cuts_grown t.nodes i cut.parent first second ns grown one.cut two.cut t.links;
      rising = rises_grown t.nodes i cut.parent first second ns grown c.requires.stood one.cut two.cut t.rising;
      stands = ∣ agrees_divided t axes cut ok ys k c.part.auto.run p ns first second grown one.from first_to two.from second_to one.cut two.cut
          (subst (λ rs. BoundsOf (picked (entries g.R.Point g.R.Record rs) (between n.from (n.from + k) new)) first.bounds) c.records-records.ensures one.bounds) (subst (λ rs. TalliesOf (picked (entries g.R.Point g.R.Record rs) (between n.from (n.from + k) new)) first.tallies) c.records-records.ensures one.tallies)
          (subst (λ rs. BoundsOf (picked (entries g.R.Point g.R.Record rs) (between (n.from + k) n.to new)) second.bounds) c.records-records.ensures two.bounds) (subst (λ rs. TalliesOf (picked (entries g.R.Point g.R.Record rs) (between (n.from + k) n.to new)) second.tallies) c.records-records.ensures two.tallies) ∣₁;
    }
