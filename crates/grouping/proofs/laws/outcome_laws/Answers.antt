use Rattle.grouping.proofs.Outcomes.{moves, moves_only}
use Rattle.grouping.proofs.laws.outcome_laws.Goals as goal

pub returns : goal.returns
returns c = record { some = moves; only = moves_only }
