use Rattle.std.proofs.Common.{◌∙◌, w64, SFits, rules}
use Rattle.std.proofs.lemmas.Int.{to_z-of_z}
use Rattle.pruning.specs.Axes.{corner_on}
use Rattle.pruning.proofs.Axes.{corner_is}
use Rattle.pruning.proofs.region.Region.corner_distance.Goals as goal

pub returns-clause-is : goal.returns-clause-is
returns-clause-is c =
    let r = c.args.self.now in
    let l = c.args.leader.now.position in
    let k = c.args.candidate.now.position in
    let p = c.args.c.now.position in
    let fits : SFits w64 c.sum_over_axes.result = search rules in
    to_z-of_z w64 _ fits ∙ c.sum_over_axes.ensures.is (corner_on r.bounds l k p) (λ a x h q. search rules) ∙ corner_is r.bounds l k p r.axes
