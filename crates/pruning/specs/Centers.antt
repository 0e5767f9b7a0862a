-- Centers as the code keeps them.
use Rattle.std.specs.Prelude.{ℕ, List, map, take}
use Rattle.points.specs.declared.position.Position.{Position}
use Rattle.grouping.specs.Distance.{Place}
use Rattle.grouping.specs.Groups.{place_of}
use Rattle.pruning.specs.declared.centers.Centers.{Centers}

-- the positions of the centers, by their numbers
abbrev pub positions_of : Centers → List Position
positions_of c = take c.count c.positions

-- their places, for points with so many axes
abbrev pub centers_of : ℕ → Centers → List Place
centers_of axes c = map (place_of axes) (positions_of c)
