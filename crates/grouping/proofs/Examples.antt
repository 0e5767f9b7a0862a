-- Rounds worked by hand.
use Rattle.std.proofs.Common.{refl}
use Rattle.grouping.specs.Choice.{choose}
use Rattle.grouping.specs.Costs.{distortion}
use Rattle.grouping.specs.Examples.{WorkedFigures}
use Rattle.grouping.specs.Moving.{move}
use Rattle.grouping.specs.Totals.{weight, sum}

-- all by computation
pub worked_figures : WorkedFigures
unfolding choose weight sum distortion move
worked_figures = (refl, (refl, (refl, (refl, tt))))
