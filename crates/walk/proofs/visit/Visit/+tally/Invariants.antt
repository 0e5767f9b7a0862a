use Rattle.std.proofs.Common.{◌-◌}
use Rattle.walk.proofs.visit.Visit.+tally.Given as goal

-- the boxes above this one
abbrev pub decreases-tally : goal.decreases-tally
decreases-tally g l = 255 - l.self.now.at.number
