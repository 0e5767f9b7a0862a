use Rattle.std.proofs.Common.{rules}
use Rattle.boxes.proofs.make.numbers.Goals as goal

pub returns-clause-each : goal.returns-clause-each
returns-clause-each c k l = let a = c.from_fn.ensures.items.at k 0 l in search rules
