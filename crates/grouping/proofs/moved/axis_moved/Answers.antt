use Rattle.std.proofs.Common.{w64, SFits, rules}
use Rattle.grouping.specs.Distance.{number}
use Rattle.grouping.proofs.Moves.{goes_to_mean}
use Rattle.grouping.proofs.moved.axis_moved.Goals as goal

pub returns : goal.returns
returns c =
    let some = c.if-group-eq0.false in
    let fs : SFits w64 (number c.args.group.now.sums c.args.a) = search rules in
    let fm : SFits w64 c.rounded_mean-mean.result = search rules in
    goes_to_mean c.args.group.now c.args.a c.rounded_mean-mean.result c.clamp.result some fs fm (c.rounded_mean-mean.ensures.mean some) c.clamp.ensures.value
