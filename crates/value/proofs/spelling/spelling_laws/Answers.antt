use Rattle.value.proofs.Laws.{unique, covers}
use Rattle.value.proofs.spelling.spelling_laws.Goals as goal

pub returns : goal.returns
returns c = record { unique = unique; covers = covers }
