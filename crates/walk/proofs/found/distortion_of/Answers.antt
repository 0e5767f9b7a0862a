use Rattle.std.proofs.Common.{◌≡◌, ℕ, ◌<◌, [], length, get_or, take, ℤ, pos, ◌+ℤ◌, sym, refl, ap, ◌∙◌, arith, w64, rules}
use Rattle.std.specs.Int.{int_wrap}
use Rattle.std.proofs.lemmas.Int.{wraps}
use Rattle.std.proofs.lemmas.List.{get_or-map, length-map, take_all}
use Rattle.numbers.specs.Sums.{summed_from}
use Rattle.grouping.specs.Distance.{Place}
use Rattle.grouping.specs.Groups.{place_of}
use Rattle.pruning.specs.Centers.{positions_of, centers_of}
use Rattle.pruning.specs.Positions.{position_at}
use Rattle.walk.specs.Told.{tallies_at, cost_of}
use Rattle.walk.proofs.Costing.{fold_wrapped, no_base}
use Rattle.walk.proofs.found.distortion_of.Goals as goal

pub returns : goal.returns
returns g c =
    let axes = g.R.Point.AXES in
    let ps = positions_of c.args.centers.now in
    let cs = centers_of axes c.args.centers.now in
    let n = c.count.result in
    let f : ℕ → Place → ℤ = λ k x. cost_of (tallies_at c.args.found.now.groups k) x in
    let many : length cs ≡ length ps = length-map ps (place_of axes) in
    fold_wrapped _ _ f cs [] n (pos 0) (omega (arith, many, c.count.ensures.is)) (omega arith)
    (λ k a b q l s called.
    let there : k < length ps = omega (arith, l, c.count.ensures.is) in
    let at : place_of axes (position_at ps k) ≡ get_or cs k [] = sym (get_or-map (place_of axes) ps k _ [] there) in
    let one : (q ≡ _) × ((y : ℤ) × (int_wrap w64 y ≡ int_wrap w64 (f k (place_of axes (position_at ps k)))) × (b ≡ int_wrap w64 (a +ℤ y))) = search (rules, wraps) in
    let (y, cost, is) = one.1 in
    (one.0, (y, cost ∙ ap (λ x. int_wrap w64 (f k x)) at, is)))
    _ c.fold.result refl c.fold.ensures.ran
    ∙ ap (int_wrap w64) (no_base (summed_from f 0 (take n cs)))
    ∙ ap (λ xs. int_wrap w64 (summed_from f 0 xs)) (take_all n cs (omega (arith, many, c.count.ensures.is)))
