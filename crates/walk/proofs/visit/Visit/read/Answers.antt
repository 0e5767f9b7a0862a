use Rattle.std.proofs.Common.{◌≡◌, ◌+◌, ◌*◌, ◌%◌, ◌^◌, [], ◌∷◌, length, get_or, sym, ap, ◌∙◌, subst, ap₂}
use Rattle.std.specs.List.{ContainsAt as Has}
use Rattle.std.proofs.lemmas.List.{take_all}
use Rattle.points.specs.Entries.{entry, entries}
use Rattle.grouping.specs.Choice.{choose}
use Rattle.boxes.specs.Runs.{picked}
use Rattle.boxes.proofs.Picking.{entry_of}
use Rattle.walk.specs.Growth.{Grown}
use Rattle.walk.specs.Visits.{run_in, all_entries, centers_in, candidates_in}
use Rattle.walk.proofs.Growing.{TallyOf, run_turn, tally_one}
use Rattle.walk.proofs.Steps.{covered_record, grown_run, run_length}
use Rattle.walk.proofs.visit.Visit.read.Goals as goal

pub loop-i-preserved : goal.loop-i-preserved
loop-i-preserved g c =
    let v = c.args.self.now in
    let run = c.run-run.result in
    let rs = run.records.now in
    let ns = run.numbers.now in
    let i = c.loop-i.i-index in
    let r = c.index-run-i.result in
    let e = entry g.R.Point g.R.Record r in
    let known = run.known i 0 c.loop-i-test.true in
    let has = covered_record v rs ns i r c.run-run.ensures.records c.run-run.ensures.numbers c.loop-i-test.true known c.index-run-i.is in
    let chosen = subst (λ x. Has (candidates_in v) (choose (centers_in v) (g.R.Point.place x)) → c.nearest_of.result ≡ choose (centers_in v) (g.R.Point.place x)) (sym c.index-run-i.is) c.nearest_of.ensures.chosen in
    let tells = subst (λ x. TallyOf (entry g.R.Point g.R.Record x ∷ []) c.of_record.result) (sym c.index-run-i.is) (tally_one _ _ c.of_record.ensures) in (
      run_turn (centers_in v) (entries g.R.Point g.R.Record rs) ns i c.args.out.now.groups c.loop-i.out.groups c.credit.new.self.groups _ _ e c.loop-i-test.true (entry_of g.R.Point g.R.Record rs (get_or ns i 0) r known c.index-run-i.is) c.loop-i.invariant.0 (chosen has) c.credit.ensures.credited tells,
      c.credit.ensures.distances ∙ c.loop-i.invariant.1,
      c.credit.ensures.queries ∙ c.loop-i.invariant.2,
    )

pub returns : goal.returns
returns g c =
    let v = c.args.self.now in
    let run = c.run-run.result in
    let read = ap₂ (λ xs ns. picked (entries g.R.Point g.R.Record xs) ns) c.run-run.ensures.records (take_all c.loop-i.i-index run.numbers.now c.loop-i-test.false ∙ c.run-run.ensures.numbers) in
    let grown = subst (λ fs. Grown (centers_in v) fs c.args.out.now.groups c.loop-i.out.groups) read c.loop-i.invariant.0 in
    let product = ap₂ (λ m n. m * n) (ap length c.run-run.ensures.numbers ∙ sym (run_length v)) c.count.ensures.is in
    record {
      grown = grown_run v c.args.out.now.groups c.note.new.self.groups (subst (Grown (centers_in v) (picked (all_entries v) (run_in v)) c.args.out.now.groups) (sym c.note.ensures.groups) grown);
      distances = c.note.ensures.distances ∙ ap₂ (λ m n. (m + n) % 2 ^ 64) c.loop-i.invariant.1 product;
      queries = c.note.ensures.queries ∙ ap (λ m. (m + 0) % 2 ^ 64) c.loop-i.invariant.2;
    }
