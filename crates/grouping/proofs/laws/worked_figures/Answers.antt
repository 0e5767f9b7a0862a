use Rattle.grouping.proofs.Examples.{worked_figures}
use Rattle.grouping.proofs.laws.worked_figures.Goals as goal

pub returns : goal.returns
returns c = worked_figures
