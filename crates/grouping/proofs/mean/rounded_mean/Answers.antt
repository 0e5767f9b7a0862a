use Rattle.std.proofs.Common.{◌^◌, ◌<◌, pos, ◌+ℤ◌, sym, ◌∙◌, subst, arith, w64, SFits, rules}
use Rattle.std.specs.Int.{int_div_euclid, int_rem_euclid}
use Rattle.std.proofs.lemmas.Int.{to_z-of_z}
use Rattle.grouping.specs.Rounding.{Rounded}
use Rattle.grouping.proofs.Means.{operands, rounds_down, rounds_up, test_down, test_up, up_fits, next_is, the_mean}
use Rattle.grouping.proofs.mean.rounded_mean.Goals as goal

pub returns-then-rest-w : goal.returns-then-rest-w
returns-then-rest-w c =
    let s = c.args.sum in
    let w = c.args.weight in
    let some : 0 < w = omega (arith, c.if-weight-eq0.false) in
    let small : w < 2 ^ 32 = search rules in
    let q = operands int_div_euclid c.div_euclid-low.result s w c.ranges.sum small c.div_euclid-low.ensures in
    let r = operands int_rem_euclid c.rem_euclid-rest.result s w c.ranges.sum small c.rem_euclid-rest.ensures.value in
    let fits : SFits w64 c.div_euclid-low.result = search rules in
    let m = subst (Rounded s (pos w)) (sym (to_z-of_z w64 _ fits ∙ q)) (rounds_down s w some (test_down s w c.rem_euclid-rest.result some small r c.if-rest-w.true)) in
    record {
      mean = λ _. m;
      is = λ _. the_mean some m;
      none = λ z. absurd (omega arith);
    }

pub returns-else-rest-w : goal.returns-else-rest-w
returns-else-rest-w c =
    let s = c.args.sum in
    let w = c.args.weight in
    let some : 0 < w = omega (arith, c.if-weight-eq0.false) in
    let small : w < 2 ^ 32 = search rules in
    let q = operands int_div_euclid c.div_euclid-low.result s w c.ranges.sum small c.div_euclid-low.ensures in
    let r = operands int_rem_euclid c.rem_euclid-rest.result s w c.ranges.sum small c.rem_euclid-rest.ensures.value in
    let low : SFits w64 c.div_euclid-low.result = search rules in
    let half = test_up s w c.rem_euclid-rest.result some small r c.if-rest-w.false in
    let fits : SFits w64 (c.div_euclid-low.result +ℤ pos 1) = subst (λ z. SFits w64 (z +ℤ pos 1)) (sym q) (up_fits s w c.ranges.sum some half) in
    let m = subst (Rounded s (pos w)) (sym (next_is _ _ low fits q)) (rounds_up s w some half) in
    record {
      mean = λ _. m;
      is = λ _. the_mean some m;
      none = λ z. absurd (omega arith);
    }
