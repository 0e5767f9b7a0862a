use Rattle.std.proofs.Common.{◌≡◌, ℕ, ◌≤◌, length, take, ℤ, pos, ◌+ℤ◌, refl, ap, ◌∙◌, arith, w64, SFits, to_z, of_z, rules}
use Rattle.std.specs.Int.{int_wrap}
use Rattle.std.proofs.lemmas.Int.{ints, wraps, to_z-of_z}
use Rattle.numbers.specs.Sums.{summed_from}
use Rattle.points.specs.Kinds.{position_place}
use Rattle.grouping.specs.Distance.{number}
use Rattle.grouping.specs.Rounding.{axis_cost}
use Rattle.walk.specs.Told.{cost_of}
use Rattle.walk.proofs.Costing.{fold_wrapped}
use Rattle.walk.proofs.found.costs_at.Goals as goal

pub returns : goal.returns
returns g c =
    let t = c.args.group.now in
    let p = position_place c.args.center.now in
    let n = c.AXES.result in
    let f : ℕ → ℤ → ℤ = λ axis x. axis_cost (number t.sums axis) t.weight x in
    let within : n ≤ length p = omega (arith, g.met.R.Point.few.1, c.AXES.ensures) in
    let fits : SFits w64 t.squares = search rules in
    let same = to_z-of_z w64 t.squares fits in
    let base : SFits w64 (to_z w64 (of_z w64 t.squares)) = omega (arith, ints) in
    fold_wrapped _ _ f p (pos 0) n (to_z w64 (of_z w64 t.squares)) within base
    (λ i a b q l s k. let one : (q ≡ _) × (b ≡ int_wrap w64 (a +ℤ f i (number p i))) = search (rules, wraps) in (one.0, (f i (number p i), refl, one.1)))
    _ c.fold.result refl c.fold.ensures.ran
    ∙ ap (λ z. int_wrap w64 (z +ℤ summed_from f 0 (take n p))) same
    ∙ ap (λ m. int_wrap w64 (cost_of t (take m p))) c.AXES.ensures
