-- Candidates as the code keeps them.
use Rattle.std.specs.Prelude.{ℕ, List, take}
use Rattle.grouping.specs.Distance.{Place}
use Rattle.pruning.specs.declared.candidates.Candidates.{Candidates}
use Rattle.pruning.specs.Centers.{centers_of}

-- the numbers of the candidates, in their order
abbrev pub listed : Candidates → List ℕ
listed c = take c.count c.numbers

-- the places of all centers that they are taken from
abbrev pub among : ℕ → Candidates → List Place
among axes c = centers_of axes c.centers.now
