use Rattle.grouping.proofs.Descents.{best_assignment, best_position}
use Rattle.grouping.proofs.laws.rest_laws.Goals as goal

pub returns : goal.returns
returns c = record { assignment = best_assignment; position = best_position }
