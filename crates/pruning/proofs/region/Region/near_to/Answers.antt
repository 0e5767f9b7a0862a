use Rattle.std.proofs.Common.{◌∙◌, w64, SFits, rules}
use Rattle.std.proofs.lemmas.Int.{to_z-of_z}
use Rattle.pruning.specs.Axes.{near_on}
use Rattle.pruning.proofs.Axes.{near_is}
use Rattle.pruning.proofs.region.Region.near_to.Goals as goal

pub returns-clause-is : goal.returns-clause-is
returns-clause-is c =
    let r = c.args.self.now in
    let fits : SFits w64 c.sum_over_axes.result = search rules in
    to_z-of_z w64 _ fits ∙ c.sum_over_axes.ensures.is (near_on r.bounds c.args.c.now) (λ a x h p. search rules) ∙ near_is r.bounds c.args.c.now r.axes
