use Rattle.std.proofs.Common.{length, refl, ap, ◌∙◌, subst, arith}
use Rattle.std.proofs.lemmas.List.{take_all}
use Rattle.walk.specs.Assignments.{Written}
use Rattle.walk.proofs.Writing.{written_more}
use Rattle.walk.proofs.visit.Visit.give.Goals as goal

pub loop-i-preserved : goal.loop-i-preserved
loop-i-preserved g c =
    let run = c.run.result in
    let i = c.loop-i.i-index in
    let known = run.known i 0 c.loop-i-test.true in
    written_more (λ _. c.args.k) run.numbers.now i c.args.k c.args.out.now c.loop-i.out c.loop-i-test.true (omega (arith, known, ap length c.run.ensures.records, c.requires, c.loop-i.auto.out)) refl c.loop-i.invariant

pub returns : goal.returns
returns g c =
    subst (λ ns. Written (λ _. c.args.k) ns c.args.out.now c.loop-i.out) (take_all c.loop-i.i-index c.run.result.numbers.now c.loop-i-test.false ∙ c.run.ensures.numbers) c.loop-i.invariant
