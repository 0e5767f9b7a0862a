use Rattle.std.proofs.Common.{◌≡◌, refl}
use Rattle.std.proofs.lemmas.Result.{err_from_is_err_and}
use Rattle.faults.specs.declared.file.FileFault.TheVariants.{Names}
use Rattle.files.proofs.Outcomes.{read_all, read_empty, read_stopped, read_unnamed}
use Rattle.files.proofs.table.read_parts.Goals as goal

pub returns-in_err-lines : goal.returns-in_err-lines
returns-in_err-lines g c =
    let p = err_from_is_err_and c.from_residual.result c.from_residual.ensures.1 in
    let is = rw c.in_err-lines.ensures.ok_part at c.in_err-lines.ensures.value in
    let same : c.in_err-lines.field-0.0 ≡ Names = cc in
    rw (p.1, p.2, same) (read_unnamed _ _ c.args.bytes.now _ _ refl (rw c.in_err-lines.ensures.ok_part at c.new.ensures) refl)

pub returns-in_err-n : goal.returns-in_err-n
returns-in_err-n g c =
    let p = err_from_is_err_and c.from_residual-in_err-n.result c.from_residual-in_err-n.ensures.1 in
    let new = rw c.in_ok-lines.ensures.ok_part at c.new.ensures in
    rw (p.1, p.2) (read_stopped _ _ c.args.bytes.now _ _ c.read_rows.auto.table c.in_ok-lines.lines.order _ c.in_ok-lines.lines.own new.0 _ c.in_err-n.ensures)

pub returns-then-n-eq0 : goal.returns-then-n-eq0
returns-then-n-eq0 g c =
    let new = rw c.in_ok-lines.ensures.ok_part at c.new.ensures in
    read_empty _ _ c.args.bytes.now _ _ c.read_rows.auto.table c.in_ok-lines.lines.order _ c.in_ok-lines.lines.own new.0 _ _ c.in_ok-n.ensures c.if-n-eq0.true c.no_row.ensures

pub returns : goal.returns
returns g c =
    let new = rw c.in_ok-lines.ensures.ok_part at c.new.ensures in
    read_all _ _ c.args.bytes.now _ _ c.read_rows.auto.table c.in_ok-lines.lines.order _ c.in_ok-lines.lines.own new.0 _ c.in_ok-n.ensures c.if-n-eq0.false
