use Rattle.std.proofs.Common.{refl, arith}
use Rattle.grouping.proofs.Grouped.{zeros}
use Rattle.direct.proofs.Assigning.{clear_more}
use Rattle.direct.proofs.tally.clear.Goals as goal

pub loop-group-preserved : goal.loop-group-preserved
loop-group-preserved c = clear_more c.loop-group.group-index c.args.groups.now c.loop-group.group-items _ (omega arith) refl refl zeros c.loop-group.invariant
