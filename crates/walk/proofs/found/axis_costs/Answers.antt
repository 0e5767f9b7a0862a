use Rattle.std.proofs.Common.{◌≡◌, ◌+ℤ◌, ◌-ℤ◌, ◌*ℤ◌, ap, ap₂, ◌∙◌, arith, w16, w64, SFits, to_z, of_z, rules}
use Rattle.std.specs.Int.{int_wrap}
use Rattle.std.proofs.lemmas.Int.{ints, wrapping_sub-bits, wrapping_mul_is}
use Rattle.grouping.specs.Rounding.{axis_cost}
use Rattle.walk.proofs.Costing.{axis_wrapped}
use Rattle.walk.proofs.found.axis_costs.Goals as goal

pub returns : goal.returns
returns c =
    let s = c.args.sum in
    let w = c.args.weight in
    let x = to_z w64 (of_z w64 (to_z w16 (of_z w16 c.args.x))) in
    let same : x ≡ c.args.x = omega (arith, ints) in
    let square : SFits w64 (x *ℤ x) = search rules in
    let double : SFits w64 (x +ℤ x) = omega (arith, ints) in
    wrapping_sub-bits w64 _ _ (omega arith) (omega arith)
    ∙ ap₂ (λ a b. int_wrap w64 (a -ℤ b)) (wrapping_mul_is w64 w (x *ℤ x) c.ranges.weight square) (wrapping_mul_is w64 s (x +ℤ x) c.ranges.sum double)
    ∙ axis_wrapped s w x
    ∙ ap (λ z. int_wrap w64 (axis_cost s w z)) same
