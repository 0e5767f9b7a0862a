use Rattle.std.proofs.Common.{◌≡◌, ◌*◌, ◌^◌, ◌<◌, ◌≤◌, length, take, ap, ◌∙◌, sym, arith, w64, SFits, rules}
use Rattle.std.proofs.lemmas.Int.{ints, to_z-of_z}
use Rattle.numbers.proofs.Summing.{sum_below, range_fits, range_sum, sum_low, sum_high}
use Rattle.points.specs.Kinds.{position_place}
use Rattle.grouping.specs.Distance.{dist}
use Rattle.grouping.proofs.Distances.{apart_on, apart_bounded, position_ranged, dist_summed, dist_all}
use Rattle.grouping.proofs.distance.squared_distance.Goals as goal

pub sum-requires-clause-fits : goal.sum-requires-clause-fits
sum-requires-clause-fits g c =
    let p = g.R.Point.place c.args.r.now in
    let q = position_place c.args.c.now in
    let n = c.AXES.result in
    let few : n * (65535 * 65535) < 2 ^ 63 = omega (arith, g.met.R.Point.few.1, c.AXES.ensures) in
    range_fits _ c.map.result (apart_on p q) n _ c.map.ensures.source c.map.ensures.closure (λ x r f k. search rules) (65535 * 65535) (apart_bounded p q n (g.met.R.Point.ranged c.args.r.now) (position_ranged c.args.c.now)) few

pub returns : goal.returns
returns g c =
    let p = g.R.Point.place c.args.r.now in
    let q = position_place c.args.c.now in
    let n = c.AXES.result in
    let all : n ≡ g.R.Point.AXES = c.AXES.ensures in
    let (xs, drains, is) = c.sum.ensures.ran in
    let sum : c.sum.result ≡ sum_below (apart_on p q) n = is ∙ range_sum _ c.map.result (apart_on p q) n _ c.map.ensures.source c.map.ensures.closure (λ x r f k. search rules) xs (drains tt) in
    let bounded = apart_bounded p q n (g.met.R.Point.ranged c.args.r.now) (position_ranged c.args.c.now) in
    let fits : SFits w64 c.sum.result = search rules in
    let long : length p ≡ n = g.met.R.Point.sized c.args.r.now ∙ sym all in
    let few : n ≤ 4 = omega (arith, g.met.R.Point.few.1) in
    let far : dist (take n p) (take n q) ≡ sum_below (apart_on p q) n = dist_summed p q n (omega arith) (omega arith) in
    let low = sum_low (apart_on p q) n (65535 * 65535) bounded in
    let high = sum_high (apart_on p q) n (65535 * 65535) bounded in
    record {
      is = to_z-of_z w64 _ fits ∙ sum ∙ sym far ∙ dist_all p q n long ∙ ap (λ m. dist p (take m q)) all;
      low = omega (arith, ints);
      high = omega (arith, ints);
    }
