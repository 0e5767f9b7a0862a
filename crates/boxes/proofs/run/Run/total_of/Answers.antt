use Rattle.std.proofs.Common.{◌≡◌, get_or, pos, ◌*ℤ◌, sym, subst}
use Rattle.points.specs.Entries.{entry, entries}
use Rattle.boxes.specs.Tells.{measured}
use Rattle.boxes.proofs.Picking.{entry_of}
use Rattle.boxes.proofs.Measures.{add_is}
use Rattle.boxes.proofs.run.Run.total_of.Goals as goal

pub loop-i-preserved : goal.loop-i-preserved
loop-i-preserved g c =
    let rs = c.args.self.records.now in
    let run = c.args.self.numbers.now in
    let i = c.loop-i.i-index in
    let r = c.index-self-i.result in
    let known = c.args.self.known i 0 c.loop-i-test.true in
    let of = entry_of g.R.Point g.R.Record rs (get_or run i 0) r known c.index-self-i.is in
    let is = subst (λ x. c.amount-sum.result ≡ pos (g.R.Record.hold x) *ℤ measured c.args.quantity.now (g.R.Point.place x)) (sym c.index-self-i.is) c.amount-sum.ensures.is in
    add_is (measured c.args.quantity.now) (entries g.R.Point g.R.Record rs) run i c.loop-i-test.true c.args.self.few _ c.amount-sum.result c.loop-i.invariant.0 c.loop-i.invariant.1 c.loop-i.invariant.2 (entry g.R.Point g.R.Record r) of is c.amount-sum.ensures.low c.amount-sum.ensures.high
