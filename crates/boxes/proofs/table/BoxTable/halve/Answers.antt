use Rattle.std.proofs.Common.{◌≡◌, ◌+◌, cond, refl, ap, ◌∙◌, subst, arith}
use Rattle.points.specs.Entries.{recorded}
use Rattle.boxes.specs.Halving.{none, Stepped}
use Rattle.boxes.specs.Standing.{cuts_of, entries_of}
use Rattle.boxes.proofs.Halvings.{one_more, no_more}
use Rattle.boxes.proofs.table.BoxTable.halve.Goals as goal

pub loop-n-init : goal.loop-n-init
loop-n-init g c = (none, refl, omega arith)

pub loop-n-preserved : goal.loop-n-preserved
loop-n-preserved g c =
    let t = c.args.self.now in
    let mid = c.loop-n.self in
    let last = c.halve_one.new.self in
    let e = c.halve_one.ensures in
    let more : last.count ≡ mid.count + 1 = e.counted ∙ ap (λ b. cond b (mid.count + 1) mid.count) c.loop-n-test.true in
    let step = subst (λ es. Stepped g.R.Point.AXES es (cuts_of mid) c.halve_one.result (cuts_of last)) (ap (recorded g.R.Point g.R.Record) c.loop-n.invariant.1) e.step in (
      one_more g.R.Point.AXES (entries_of t) (cuts_of t) (cuts_of mid) (cuts_of last) c.loop-n.n c.loop-n.invariant.0 c.halve_one.result step c.loop-n-test.true,
      e.recording ∙ c.loop-n.invariant.1,
      omega (arith, more, c.loop-n.invariant.2),
    )

pub returns : goal.returns
returns g c =
    let t = c.args.self.now in
    let mid = c.loop-n.self in
    let last = c.halve_one.new.self in
    let e = c.halve_one.ensures in
    let step = subst (λ es. Stepped g.R.Point.AXES es (cuts_of mid) c.halve_one.result (cuts_of last)) (ap (recorded g.R.Point g.R.Record) c.loop-n.invariant.1) e.step in
    let end = no_more g.R.Point.AXES (entries_of t) (cuts_of t) (cuts_of mid) (cuts_of last) c.loop-n.n c.loop-n.invariant.0 c.halve_one.result step c.loop-n-test.false in
    record { halved = end.0; rests = end.1; recording = e.recording ∙ c.loop-n.invariant.1 }
