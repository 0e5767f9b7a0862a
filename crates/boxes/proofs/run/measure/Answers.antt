use Rattle.std.proofs.Common.{◌≡◌, [], ◌∷◌, take, pos, sym, refl, ap, ◌∙◌, arith, w64, to_z, of_z}
use borrow.Author.Differences.{ints}
use Rattle.std.proofs.lemmas.List.{length-take-le}
use Rattle.std.proofs.ByRecursion.{All-take}
use Rattle.points.specs.Kinds.{position_place, told}
use Rattle.grouping.specs.Distance.{dist}
use Rattle.boxes.specs.Tells.{measured}
use Rattle.boxes.proofs.Measures.{dist_zero}
use Rattle.boxes.proofs.run.measure.Goals as goal

pub returns-in-Squares : goal.returns-in-Squares
returns-in-Squares g c =
    let d = c.squared_distance.result in
    let p = g.R.Point.place c.args.r.now in
    let n = g.R.Point.AXES in
    let zeros = pos 0 ∷ pos 0 ∷ pos 0 ∷ pos 0 ∷ [] in
    let at = c.default.ensures.at in
    let start : position_place c.default.result ≡ zeros = λ i. told (at 0 (pos 0) (omega arith) i) ∷ told (at 1 (pos 0) (omega arith) i) ∷ told (at 2 (pos 0) (omega arith) i) ∷ told (at 3 (pos 0) (omega arith) i) ∷ [] in
    let low = c.squared_distance.ensures.low in
    let high = c.squared_distance.ensures.high in
    let same : to_z w64 (of_z w64 d) ≡ d = omega (arith, ints) in
    record {
      is = same ∙ c.squared_distance.ensures.is ∙ ap (λ q. dist p (take n q)) start ∙ dist_zero p (take n zeros) (omega (arith, g.met.R.Point.sized c.args.r.now, length-take-le n zeros g.met.R.Point.few.1)) (All-take (λ z. z ≡ pos 0) n zeros (refl, (refl, (refl, (refl, tt))))) ∙ ap (λ q. measured q p) (sym c.in-Squares.is);
      low = omega (arith, ints);
      high = omega (arith, ints);
    }
