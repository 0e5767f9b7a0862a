use Rattle.grouping.proofs.Expansions.{expands, group_expands}
use Rattle.grouping.proofs.laws.expansion_laws.Goals as goal

pub returns : goal.returns
returns c = record { entries = expands; group = group_expands }
