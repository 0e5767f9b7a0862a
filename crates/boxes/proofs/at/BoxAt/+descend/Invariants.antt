use Rattle.std.proofs.Common.{◌-◌}
use Rattle.boxes.proofs.at.BoxAt.+descend.Given as goal

-- the boxes above this one
abbrev pub decreases-descend : goal.decreases-descend
decreases-descend g l = 255 - l.self.number
