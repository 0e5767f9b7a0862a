use Rattle.std.proofs.Common.{arith}
use Rattle.std.proofs.lemmas.Result.{err_from_is_err_and}
use Rattle.files.proofs.Written.{some_left, stops_over, stops_wrong}
use Rattle.files.proofs.table.read_rows.Goals as goal

pub returns-in_err-check_room : goal.returns-in_err-check_room
returns-in_err-check_room g c =
    let p = err_from_is_err_and c.from_residual.result c.from_residual.ensures.1 in
    rw (p.1, p.2) (stops_over _ _ _ _ _ _ _ _ c.loop-lines.invariant.filled (some_left _ _ c.at_end.ensures c.loop-lines-test.true) _ (rw c.loop-lines.auto.table at c.in_err-check_room.ensures))

pub returns-in_err-table : goal.returns-in_err-table
returns-in_err-table g c =
    let p = err_from_is_err_and c.from_residual-in_err-table.result c.from_residual-in_err-table.ensures.1 in
    let room = rw c.loop-lines.auto.table at c.in_ok-check_room.ensures in
    rw (p.1, p.2) (stops_wrong _ _ _ _ _ _ _ _ c.loop-lines.invariant.filled (some_left _ _ c.at_end.ensures c.loop-lines-test.true) _ _ _ _ (omega (arith, c.line-line.ensures, c.loop-lines.invariant.line)) room (rw c.loop-lines.invariant.order at c.read_row.ensures.row) c.in_err-table.ensures)
