use Rattle.std.proofs.Common.{◌<◌, ◌∙◌, arith}
use borrow.Author.Differences.{ints}
use Rattle.numbers.proofs.Ring.{lin}
use Rattle.pruning.proofs.Axes.{summed_more, summed_all}
use Rattle.pruning.proofs.region.Region.sum_over_axes.Goals as goal

pub loop-a-preserved : goal.loop-a-preserved
loop-a-preserved g c =
    let few : c.loop-a.a < 4 = omega arith in
    let small = c.requires.small c.loop-a.a c.summand-d.result few c.summand-d.ensures in
    let inv = c.loop-a.invariant in
    record {
      is = λ f ties. omega (arith, ints, lin, summed_more f c.loop-a.a few, inv.is f ties, ties c.loop-a.a c.summand-d.result few c.summand-d.ensures);
      low = omega (arith, ints);
      high = omega (arith, ints);
    }

pub returns-clause-is : goal.returns-clause-is
returns-clause-is g c = λ f ties. c.loop-a.invariant.is f ties ∙ summed_all f c.args.self.now.axes c.loop-a.a (omega arith)
