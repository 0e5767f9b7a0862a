use Rattle.std.proofs.Common.{take}
use Rattle.walk.specs.Assignments.{Written}
use Rattle.walk.proofs.visit.Visit.give.Given as goal

abbrev pub invariant-loop-i : goal.invariant-loop-i
invariant-loop-i g l = Written (λ _. l.k) (take l.i-index l.i-items) l.initial.out l.out
