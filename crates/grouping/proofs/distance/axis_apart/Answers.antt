use Rattle.std.proofs.Common.{◌-ℤ◌, ◌*ℤ◌, ap₂, arith, w16, w64, SFits, rules}
use borrow.Author.Differences.{ints}
use Rattle.std.proofs.lemmas.Int.{to_z-of_z}
use Rattle.numbers.proofs.Ring.{square_low}
use Rattle.grouping.proofs.Distances.{apart_high, apart_fits}
use Rattle.grouping.proofs.distance.axis_apart.Goals as goal

pub overflow_mul-result : goal.overflow_mul-result
overflow_mul-result g c =
    let x = c.axis.result in
    let y = c.axis-2.result in
    let fx : SFits w16 x = search rules in
    let fy : SFits w16 y = search rules in
    let wx : SFits w64 x = omega (arith, ints) in
    let wy : SFits w64 y = omega (arith, ints) in
    let fd : SFits w64 (x -ℤ y) = omega (arith, ints) in
    simp to_z-of_z (apart_fits x y fx fy)

pub returns : goal.returns
returns g c =
    let x = c.axis.result in
    let y = c.axis-2.result in
    let fx : SFits w16 x = search rules in
    let fy : SFits w16 y = search rules in
    let wx : SFits w64 x = omega (arith, ints) in
    let wy : SFits w64 y = omega (arith, ints) in
    let fd : SFits w64 (x -ℤ y) = omega (arith, ints) in
    let fp : SFits w64 ((x -ℤ y) *ℤ (x -ℤ y)) = apart_fits x y fx fy in
    record {
      is = simp to_z-of_z (ap₂ (λ u v. (u -ℤ v) *ℤ (u -ℤ v)) c.axis.ensures c.axis-2.ensures);
      low = simp to_z-of_z (square_low (x -ℤ y));
      high = simp to_z-of_z (apart_high x y fx fy);
    }
