use Rattle.direct.proofs.Assigning.{ClearTo}
use Rattle.direct.proofs.tally.clear.Given as goal

abbrev pub invariant-loop-group : goal.invariant-loop-group
invariant-loop-group l = ClearTo l.group-index l.initial.group-items l.group-items
