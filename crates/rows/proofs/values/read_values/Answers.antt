use Rattle.std.proofs.Common.{◌≡◌, ◌+◌, ◌<◌, length, get_or, set, sym, ap, ◌∙◌, subst, arith, w32, to_z, of_z}
use Rattle.std.proofs.lemmas.List.{length-set}
use Rattle.std.proofs.lemmas.Result.{err_from_is_err_and}
use Rattle.reader.specs.Steps.{Lent, fields_left}
use Rattle.rows.specs.Columns.{width}
use Rattle.rows.specs.Lines.{columns_in}
use Rattle.rows.proofs.Fields.{next_field, value_lent, value_there}
use Rattle.rows.proofs.Spelled.{ReadSofar, one_read, right_before, range_read, cell_right, cell_wrong, all_cells, all_fit, order_once}
use Rattle.rows.proofs.values.read_values.Goals as goal
use Rattle.rows.proofs.values.read_values.Goals.{After-field-field}

-- what the reader said of the field that a turn takes
lent_to : (c : After-field-field) → Lent c.loop-c.reader c.field-field.result c.value.new.self
lent_to c = subst (λ field. Lent c.loop-c.reader field c.value.new.self) (sym c.field-field.ensures) (value_lent _ c.unwrap.result _ (rw c.unwrap.ensures at c.value.ensures))

pub unwrap-requires : goal.unwrap-requires
unwrap-requires c =
    let each = order_once c.args.order.now in
    value_there (fields_left c.args.reader.now) c.loop-c.c-index c.loop-c.reader c.value.new.self c.value.result c.value.ensures c.loop-c.invariant.left (omega (arith, each.long, ap length c.columns-c-items.ensures, c.if-fields_left-columns.false, c.fields_left.ensures, ap length c.columns-columns.ensures))

pub returns-in_err-values-clause-values : goal.returns-in_err-values-clause-values
returns-in_err-values-clause-values c =
    let p = err_from_is_err_and c.from_residual.result c.from_residual.ensures.1 in
    let lent = lent_to (goal.at.returns-in_err-values-clause-values c).After-field-field in
    let step = next_field _ c.loop-c.c-index _ _ (c.loop-c.invariant.left ∙ lent.first) in
    let order = c.args.order.now in
    let each = order_once order in
    let n = ap length c.columns-columns.ensures in
    let below : c.loop-c.c-index < width order.kind = omega (arith, each.long, ap length c.columns-c-items.ensures) in
    rw (p.1, p.2)
    (cell_wrong order.kind (columns_in order) _ _ c.loop-c.c-index _ _ _ _ c.in_err-values.ensures
    (range_read order.kind _ _ _ _ c.columns-columns.ensures (ap (λ l. get_or l c.loop-c.c-index 0) c.columns-c-items.ensures) (each.known c.loop-c.c-index below))
    step.0 (omega (arith, lent.column_is, c.loop-c.invariant.place)) below (omega (arith, c.if-fields_left-columns.false, c.fields_left.ensures, n))
    (right_before order.kind (columns_in order) (fields_left c.args.reader.now) c.loop-c.c-index c.loop-c.values c.loop-c.invariant.read))

pub loop-c-preserved : goal.loop-c-preserved
loop-c-preserved c =
    let lent = lent_to (goal.at.loop-c-preserved c).After-field-field in
    let step = next_field _ c.loop-c.c-index _ _ (c.loop-c.invariant.left ∙ lent.first) in
    let order = c.args.order.now in
    let each = order_once order in
    let column = ap (λ l. get_or l c.loop-c.c-index 0) c.columns-c-items.ensures in
    let below : c.loop-c.c-index < width order.kind = omega (arith, each.long, ap length c.columns-c-items.ensures) in
    let right = cell_right _ _ _ _ _ c.in_ok-values.ensures (range_read order.kind _ _ _ _ c.columns-columns.ensures column (each.known c.loop-c.c-index below)) step.0 in
    record {
      read = subst (λ d. ReadSofar order.kind (columns_in order) (fields_left c.args.reader.now) (c.loop-c.c-index + 1) (set c.loop-c.values d (to_z w32 (of_z w32 c.in_ok-values.field-0)))) (sym column)
          (one_read order.kind (columns_in order) _ c.loop-c.c-index _ _ each below c.loop-c.invariant.four c.loop-c.invariant.read right.0 right.1);
      left = step.1;
      four = length-set _ _ _ ∙ c.loop-c.invariant.four;
      place = omega (arith, lent.step, c.loop-c.invariant.place);
      rest = lent.same_rest ∙ c.loop-c.invariant.rest;
      line = lent.same_line ∙ c.loop-c.invariant.line;
    }

pub returns-clause-values : goal.returns-clause-values
returns-clause-values c =
    let order = c.args.order.now in
    let each = order_once order in
    let fields = fields_left c.args.reader.now in
    let all : c.loop-c.c-index ≡ width order.kind = omega (arith, each.long, ap length c.columns-c-items.ensures) in
    let read = subst (λ k. ReadSofar order.kind (columns_in order) fields k c.loop-c.values) all c.loop-c.invariant.read in
    (all_cells order.kind (columns_in order) fields c.loop-c.values each read (omega (arith, c.if-fields_left-columns.false, c.fields_left.ensures, ap length c.columns-columns.ensures)), all_fit order.kind (columns_in order) fields c.loop-c.values each read c.loop-c.invariant.four)
