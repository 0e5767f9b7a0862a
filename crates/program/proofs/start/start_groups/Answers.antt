use Rattle.std.proofs.Common.{arith}
use Rattle.program.proofs.Starts.{one_start}
use Rattle.program.proofs.start.start_groups.Goals as goal

pub loop-k-preserved : goal.loop-k-preserved
loop-k-preserved g c axes = one_start g.C.Row.fields c.args.rows.now c.loop-k.groups c.loop-k.k _ _ axes c.loop-k-test.true (omega (arith, c.requires, c.loop-k.auto.groups)) c.index-rows-k.is c.position.ensures (c.loop-k.invariant axes)
