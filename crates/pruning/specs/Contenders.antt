-- Contenders as the code keeps them.
use Rattle.std.specs.Prelude.{Bool}
use Rattle.grouping.specs.Distance.{Place}
use Rattle.grouping.specs.Groups.{place_of}
use Rattle.pruning.specs.declared.contender.Contender.{Contender}
use Rattle.pruning.specs.declared.region.Region.{Region}
use Rattle.pruning.specs.Positions.{lows_of, highs_of}
use Rattle.pruning.specs.Rules.{Test}

-- where the contender stands, on the axes of the region
abbrev pub stand_of : Region → Contender → Place
stand_of r c = place_of r.axes c.position

-- what a test answers of the region, a leader and a candidate
abbrev pub answer : Test → Region → Contender → Contender → Bool
answer test r leader candidate = test (lows_of r) (highs_of r) leader.number (stand_of r leader) candidate.number (stand_of r candidate)
