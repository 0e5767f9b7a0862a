use Rattle.std.proofs.Common.{◌≡◌, length, get_or, sym, ap, ◌∙◌, subst, arith}
use Rattle.std.specs.List.{ContainsAt as Has}
use Rattle.std.proofs.lemmas.List.{take_all}
use Rattle.points.specs.Entries.{entries}
use Rattle.grouping.specs.Choice.{choose}
use Rattle.boxes.proofs.Picking.{entry_of}
use Rattle.walk.specs.Assignments.{Written, chosen_by}
use Rattle.walk.specs.Visits.{run_in, centers_in, candidates_in}
use Rattle.walk.proofs.Steps.{covered_record}
use Rattle.walk.proofs.Writing.{written_more}
use Rattle.walk.proofs.visit.Visit.look.Goals as goal

pub loop-i-preserved : goal.loop-i-preserved
loop-i-preserved g c =
    let v = c.args.self.now in
    let run = c.run-run.result in
    let rs = run.records.now in
    let ns = run.numbers.now in
    let i = c.loop-i.i-index in
    let r = c.index-run-i.result in
    let known = run.known i 0 c.loop-i-test.true in
    let has = covered_record v rs ns i r c.run-run.ensures.records c.run-run.ensures.numbers c.loop-i-test.true known c.index-run-i.is in
    let chosen = subst (λ x. Has (candidates_in v) (choose (centers_in v) (g.R.Point.place x)) → c.nearest_of.result ≡ choose (centers_in v) (g.R.Point.place x)) (sym c.index-run-i.is) c.nearest_of.ensures.chosen in
    let is = chosen has ∙ ap (λ e. choose (centers_in v) e.place) (sym (entry_of g.R.Point g.R.Record rs (get_or ns i 0) r known c.index-run-i.is)) in
    written_more (chosen_by (centers_in v) (entries g.R.Point g.R.Record rs)) ns i c.nearest_of.result c.args.out.now c.loop-i.out c.loop-i-test.true (omega (arith, known, ap length c.run-run.ensures.records, c.requires, c.loop-i.auto.out)) is c.loop-i.invariant

pub returns : goal.returns
returns g c =
    let v = c.args.self.now in
    let run = c.run-run.result in
    subst (λ xs. Written (chosen_by (centers_in v) (entries g.R.Point g.R.Record xs)) (run_in v) c.args.out.now c.loop-i.out) c.run-run.ensures.records
    (subst (λ ns. Written (chosen_by (centers_in v) (entries g.R.Point g.R.Record run.records.now)) ns c.args.out.now c.loop-i.out) (take_all c.loop-i.i-index run.numbers.now c.loop-i-test.false ∙ c.run-run.ensures.numbers) c.loop-i.invariant)
