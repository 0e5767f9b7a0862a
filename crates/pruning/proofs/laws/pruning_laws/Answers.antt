use Rattle.pruning.proofs.Leading.{prunes_none, reached_covers}
use Rattle.pruning.proofs.laws.pruning_laws.Goals as goal

pub returns : goal.returns
returns c = record { none = prunes_none; covers = reached_covers }
