use Rattle.grouping.proofs.Choosing.{chosen, chosen_is}
use Rattle.grouping.proofs.laws.choice_laws.Goals as goal

pub returns : goal.returns
returns c = λ cs p h. (chosen cs p h, λ k. chosen_is cs p k)
