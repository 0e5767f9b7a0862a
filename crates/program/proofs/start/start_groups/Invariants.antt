use Rattle.std.proofs.Common.{◌≡◌, ℕ, map, take}
use Rattle.grouping.specs.Groups.{places}
use Rattle.program.specs.Answers.{start_at}
use Rattle.program.proofs.start.start_groups.Given as goal

abbrev pub invariant-loop-k : goal.invariant-loop-k
invariant-loop-k g l = (axes : ℕ) → places axes (take l.k l.groups) ≡ map (start_at axes g.C.Row.fields) (take l.k l.rows)
