use Rattle.std.proofs.Common.{◌-◌}
use Rattle.walk.proofs.visit.Visit.+assign.Given as goal

-- the boxes above this one
abbrev pub decreases-assign : goal.decreases-assign
decreases-assign g l = 255 - l.self.now.at.number
