use Rattle.std.proofs.Common.{length, map, take, ap, subst, arith}
use Rattle.std.proofs.lemmas.List.{length-replicate, length-take-le}
use Rattle.std.proofs.lemmas.Result.{err_from_is_err_and}
use Rattle.points.specs.Entries.{entries}
use Rattle.program.specs.Answers.{GroupedFrom, start_at, both_read, first_refused, second_refused}
use Rattle.program.proofs.Reading.{few_centers, in_table, was_accepted, was_refused}
use Rattle.program.proofs.run.run_kind.Goals as goal

pub returns-in_err-n : goal.returns-in_err-n
returns-in_err-n g c =
    let p = err_from_is_err_and c.from_residual.result c.from_residual.ensures.1 in
    rw (p.1, p.2) (first_refused (was_refused 1 _ _ _ _ c.load.new.table (length-replicate 4096 c.from_values-records.result) _ _ c.load.ensures c.in_err-n.was))

pub returns-in_err-m : goal.returns-in_err-m
returns-in_err-m g c =
    let p = err_from_is_err_and c.from_residual-in_err-m.result c.from_residual-in_err-m.ensures.1 in
    let a = was_accepted 1 _ _ _ _ c.load.new.table (length-replicate 4096 c.from_values-records.result) _ _ c.load.auto.table c.load.ensures c.in_ok-n.was in
    rw (p.1, p.2) (second_refused (take c.in_ok-n.n c.load.new.table) a.0 (was_refused 2 _ _ _ _ c.load-2.new.table (length-replicate 4096 c.from_values-rows.result) _ _ c.load-2.ensures c.in_err-m.was))

pub group_rows-requires : goal.group_rows-requires
group_rows-requires g c =
    let first = length-replicate 4096 c.from_values-records.result in
    let second = length-replicate 4096 c.from_values-rows.result in
    let a = was_accepted 1 _ _ _ _ c.load.new.table first _ _ c.load.auto.table c.load.ensures c.in_ok-n.was in
    let b = was_accepted 2 _ _ _ _ c.load-2.new.table second _ _ c.load-2.auto.table c.load-2.ensures c.in_ok-m.was in
    let n = in_table g.R.Row.KIND c.in_ok-n.n a.1.1 in
    let m = few_centers g.C.Row.KIND c.in_ok-m.m c.requires.kind b.1.1 in
    let n_is = length-take-le c.in_ok-n.n c.as_slice-records.result.now (omega (arith, n, c.load.auto.table, first, ap length c.as_slice-records.ensures)) in
    let m_is = length-take-le c.in_ok-m.m c.as_slice-rows.result.now (omega (arith, m, c.load-2.auto.table, second, ap length c.as_slice-rows.ensures)) in
    record { some = omega (arith, n_is, a.1.0); few = omega (arith, n_is, n); centers = omega (arith, m_is, m) }

pub returns : goal.returns
returns g c =
    let a = was_accepted 1 _ _ _ _ c.load.new.table (length-replicate 4096 c.from_values-records.result) _ _ c.load.auto.table c.load.ensures c.in_ok-n.was in
    let b = was_accepted 2 _ _ _ _ c.load-2.new.table (length-replicate 4096 c.from_values-rows.result) _ _ c.load-2.auto.table c.load-2.ensures c.in_ok-m.was in
    let start = start_at g.R.Point.AXES g.C.Row.fields in
    both_read (take c.in_ok-n.n c.load.new.table) (take c.in_ok-m.m c.load-2.new.table) a.0 b.0
    (subst (λ rows. GroupedFrom g.C.Row.KIND g.R.Point.AXES (entries g.R.Point g.R.Record (take c.in_ok-n.n c.load.new.table)) (map start (take c.in_ok-m.m rows)) c.group_rows.result) c.as_slice-rows.ensures
    (subst (λ records. GroupedFrom g.C.Row.KIND g.R.Point.AXES (entries g.R.Point g.R.Record (take c.in_ok-n.n records)) (map start (take c.in_ok-m.m c.as_slice-rows.result.now)) c.group_rows.result) c.as_slice-records.ensures c.group_rows.ensures))
