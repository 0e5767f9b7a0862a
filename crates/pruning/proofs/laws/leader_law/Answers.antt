use Rattle.pruning.proofs.Leading.{leads_all}
use Rattle.pruning.proofs.laws.leader_law.Goals as goal

pub returns : goal.returns
returns c = leads_all
