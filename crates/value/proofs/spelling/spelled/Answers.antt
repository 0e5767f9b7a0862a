use Rattle.std.proofs.Common.{sym, subst, arith, ltb-false, ltb-true}
use Rattle.std.proofs.lemmas.List.{take_rest}
use Rattle.value.specs.Spelling.{Writes}
use Rattle.value.proofs.Shapes.{zero_spells, no_shape, first_of}
use Rattle.value.proofs.spelling.spelled.Goals as goal

pub returns-in-48 : goal.returns-in-48
returns-in-48 c = zero_spells _ (omega arith) (omega (arith, ltb-true, ltb-false))

pub returns-in_err-magnitude-in-45 : goal.returns-in_err-magnitude-in-45
returns-in_err-magnitude-in-45 c = rw c.from_residual.ensures (no_shape _ (λ e l. grind (arith, ltb-true, ltb-false)) (λ q e n w. c.in_err-magnitude-in-45.ensures n (subst (λ l. Writes l n) (sym (take_rest c.args.bytes.now 1)) w)) (λ n w. grind (arith, ltb-true, ltb-false, first_of _ n w)))

pub returns-in_err-magnitude-in_default : goal.returns-in_err-magnitude-in_default
returns-in_err-magnitude-in_default c = rw c.from_residual-in_err-magnitude-in_default.ensures (no_shape c.args.bytes.now (λ e l. grind (arith, ltb-true, ltb-false)) (λ q e n w. grind (arith, ltb-true, ltb-false)) c.in_err-magnitude-in_default.ensures)
