use Rattle.std.proofs.Common.{sym, ◌∙◌, inl, inr, arith}
use Rattle.std.proofs.lemmas.Bool.{eqb-true, eqb-false}
use Rattle.boxes.specs.Regions.{cut_by}
use Rattle.boxes.proofs.Sides.{counted_run, one_sided, two_sided}
use Rattle.boxes.proofs.Tables.{box_there}
use Rattle.boxes.proofs.at.BoxAt.is_one_sided.Goals as goal

pub returns-then-lower-eq0-clause-yes : goal.returns-then-lower-eq0-clause-yes
returns-then-lower-eq0-clause-yes g c e =
    let t = c.args.self.table.now in
    let b = c.args.self.number in
    let cut = cut_by b c.args.cut.now.axis c.args.cut.now.value in
    let lower = counted_run t b c.args.cut.now _ _ _ c.count_below-lower.ensures c.run.ensures.records c.run.ensures.numbers in
    one_sided t cut (box_there t b c.args.self.there) g.R.Point.AXES (inl (sym lower ∙ eqb-true _ _ e))

pub returns-else-lower-eq0 : goal.returns-else-lower-eq0
returns-else-lower-eq0 g c =
    let t = c.args.self.table.now in
    let b = c.args.self.number in
    let cut = cut_by b c.args.cut.now.axis c.args.cut.now.value in
    let there = box_there t b c.args.self.there in
    let lower = counted_run t b c.args.cut.now _ _ _ c.count_below-lower.ensures c.run.ensures.records c.run.ensures.numbers in
    record {
      yes = λ e. one_sided t cut there g.R.Point.AXES (inr (omega (arith, eqb-true _ _ e)));
      no = λ e. two_sided t cut there g.R.Point.AXES (λ z. c.if-lower-eq0.false (lower ∙ z)) (λ z. eqb-false _ _ e (omega arith));
    }
