use Rattle.std.proofs.lemmas.Result.{err_from_is_err_and}
use Rattle.files.proofs.Headers.{line_taken}
use Rattle.files.proofs.Written.{line_right, line_wrong}
use Rattle.files.proofs.lines.Lines.read_row.Goals as goal

pub returns-in_err-read_values-clause-row : goal.returns-in_err-read_values-clause-row
returns-in_err-read_values-clause-row g c =
    let p = err_from_is_err_and c.from_residual-in_err-read_values.result c.from_residual-in_err-read_values.ensures.1 in
    let ends = line_taken _ _ _ c.next_line.ensures c.in_ok-map_err.ensures.variant in
    rw (p.1, p.2) (λ _. line_wrong _ _ _ _ _ c.args.self.now.own ends _ c.in_err-read_values.ensures.values)

pub returns-clause-row : goal.returns-clause-row
returns-clause-row g c =
    let ends = line_taken _ _ _ c.next_line.ensures c.in_ok-map_err.ensures.variant in
    line_right _ _ _ _ _ c.args.self.now.own ends _ _ _ c.in_ok-read_values.ensures.values c.from_values.ensures c.read_values.ensures.rest
