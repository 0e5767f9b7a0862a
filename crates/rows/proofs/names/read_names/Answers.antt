use Rattle.std.proofs.Common.{◌≡◌, ◌<◌, eqb, length, sym, refl, ap, ◌∙◌, subst, arith}
use borrow.Author.Tests.{both_ways}
use Rattle.std.proofs.lemmas.List.{length-set}
use Rattle.std.proofs.lemmas.List.Elements.{contains_decides}
use Rattle.std.proofs.lemmas.Bool.Decides.{Decides-eqb}
use Rattle.reader.specs.Steps.{fields_left}
use Rattle.rows.specs.Columns.{width}
use Rattle.rows.specs.Lines.{NamesRead}
use Rattle.rows.proofs.Fields.{next_field}
use Rattle.rows.proofs.Named.{NamedSofar, few, one_named, all_named, no_column, name_twice, stands_among}
use Rattle.rows.proofs.names.read_names.Goals as goal

pub returns-in_err-column-clause-names : goal.returns-in_err-column-clause-names
returns-in_err-column-clause-names c =
    let read = c.in_err-column.ensures in
    let step = next_field _ c.loop-k.k _ _ (c.loop-k.invariant.left ∙ read.first) in
    subst (NamesRead _ _) (sym c.from_residual.ensures) (no_column _ _ c.loop-k.k (omega (arith, ap length c.columns-n.ensures)) _ step.0 read.named)

pub returns-then-contains-clause-names : goal.returns-then-contains-clause-names
returns-then-contains-clause-names c =
    let read = c.in_ok-column.ensures in
    let step = next_field _ c.loop-k.k _ _ (c.loop-k.invariant.left ∙ read.first) in
    let below : c.loop-k.k < width c.args.kind = omega (arith, ap length c.columns-n.ensures) in
    name_twice _ _ c.loop-k.k below c.loop-k.at _ c.loop-k.invariant.named (omega (arith, (few c.args.kind).1, c.loop-k.invariant.four)) read.named.0 (step.0 ∙ read.named.1)
    ((contains_decides eqb Decides-eqb _ _ _ c.contains.ensures.cases).0 c.if-contains.true)

pub loop-k-preserved : goal.loop-k-preserved
loop-k-preserved c =
    let read = c.in_ok-column.ensures in
    let step = next_field _ c.loop-k.k _ _ (c.loop-k.invariant.left ∙ read.first) in
    let within : c.loop-k.k < length c.loop-k.at = omega (arith, (few c.args.kind).1, ap length c.columns-n.ensures, c.loop-k.invariant.four) in
    record {
      named = one_named _ _ _ c.loop-k.at _ c.loop-k.invariant.named within read.named.0 (step.0 ∙ read.named.1)
          (λ i l e. both_ways _ c.if-contains.false ((contains_decides eqb Decides-eqb _ _ _ c.contains.ensures.cases).1 (stands_among c.loop-k.at c.loop-k.k _ i (omega arith) l e)));
      left = step.1;
      four = length-set _ _ _ ∙ c.loop-k.invariant.four;
      rest = read.rest ∙ c.loop-k.invariant.rest;
      line = read.line ∙ c.loop-k.invariant.line;
    }

pub returns-clause-names : goal.returns-clause-names
returns-clause-names c =
    let n = ap length c.columns-n.ensures in
    let all : c.loop-k.k ≡ width c.args.kind = omega (arith, c.loop-k-test.false, n) in
    (refl, all_named _ (fields_left c.args.reader.now) c.loop-k.at (subst (λ k. NamedSofar c.args.kind (fields_left c.args.reader.now) k c.loop-k.at) all c.loop-k.invariant.named) (omega (arith, c.if-fields_left-n.false, c.fields_left.ensures, n)) c.loop-k.invariant.four)
