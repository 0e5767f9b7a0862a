use Rattle.std.proofs.Common.{arith}
use Rattle.pruning.proofs.candidates.Candidates.get.Goals as goal

pub contender-requires : goal.contender-requires
contender-requires c = let s = c.args.self.now in s.known c.min-i.result (omega (arith, s.some))
