use Rattle.grouping.proofs.Advancing.{AdvancedTo}
use Rattle.grouping.proofs.moved.move_centers.Given as goal

abbrev pub invariant-loop-group : goal.invariant-loop-group
invariant-loop-group g l = AdvancedTo g.R.Point.AXES l.group-index l.initial.group-items l.group-items l.changed
