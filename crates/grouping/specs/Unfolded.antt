-- Entries one by one.
use Rattle.std.specs.Prelude.{List, [], ◌∷◌, ◌++◌, replicate}
use Rattle.points.specs.Entries.{Entry}
use Rattle.grouping.specs.Distance.{Place}

-- each place as often as it is held
abbrev pub unfolded : List Entry → List Place
unfolded [] = []
unfolded (e ∷ es) = replicate e.hold e.place ++ unfolded es
