use Rattle.std.proofs.Common.{◌≡◌, [], ◌∷◌, ◌++◌, sym, subst, arith, w16, SFits, rules}
use Rattle.std.proofs.lemmas.Int.{to_z-of_z}
use Rattle.std.specs.Result.{MatchResult}
use Rattle.boxes.specs.Faults.{Accepted, Refused}
use Rattle.boxes.specs.Halving.{Stepped}
use Rattle.boxes.specs.Regions.{cut_by}
use Rattle.boxes.specs.Standing.{cuts_of, entries_of}
use Rattle.boxes.proofs.Halvings.{stepped}
use Rattle.boxes.proofs.Tables.{count_is}
use Rattle.boxes.proofs.table.BoxTable.halve_one.Goals as goal

pub returns-clause-step : goal.returns-clause-step
returns-clause-step g c =
    let t = c.args.self.now in
    let last = c.cut.new.self in
    let axes = g.R.Point.AXES in
    let es = entries_of t in
    let cuts = cuts_of t in
    let cut = c.in-Some.cut in
    let fits : SFits w16 cut.value = search rules in
    let value = to_z-of_z w16 cut.value fits in
    let made = subst (λ z. MatchResult c.cut.result (λ _. Accepted axes es cuts (cut_by cut.parent cut.axis z)) (λ f. Refused axes es cuts (cut_by cut.parent cut.axis z) f)) value c.cut.ensures.made in
    let noted = subst (λ z. MatchResult c.cut.result (λ _. cuts_of last ≡ cuts ++ cut_by cut.parent cut.axis z ∷ []) (λ _. last ≡ t)) value c.cut.ensures.noted in
    subst (λ b. Stepped axes es cuts b (cuts_of last)) (sym c.is_ok.ensures.value) (stepped _ _ axes es cuts (cuts_of last) cut c.cut.result c.in-Some.ensures (omega (arith, count_is t, t.few, c.if-self-eq-MOST_CUTS.false)) made noted)
