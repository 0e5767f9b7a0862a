-- How large weights, sums and the distortion can be.
use Rattle.std.proofs.Common.{◌≡◌, ℕ, zero, suc, ◌*◌, ◌≤◌, true, List, [], ◌∷◌, length, get_or, ℤ, pos, negsuc, ◌≤ℤ◌, arith}
use borrow.Author.Differences.{ints}
use Rattle.std.specs.List.{AllByRecursion}
use Rattle.std.proofs.ByRecursion.{All-map, All-from_get_or}
use Rattle.std.proofs.lemmas.List.{length-map}
use Rattle.numbers.proofs.Ring.{lin}
use Rattle.points.specs.Entries.{entry, entries}
use Rattle.points.specs.declared.point.Point.{Ghosts as PointGhosts}
use Rattle.points.specs.declared.record.Record.{Ghosts as RecordGhosts}
use Rattle.grouping.specs.Bounds.{WeightBound, SumBound, DistortionBound}
use Rattle.grouping.specs.Choice.{center, choose}
use Rattle.grouping.specs.Costs.{distortion}
use Rattle.grouping.specs.Distance.{Place, dist}
use Rattle.grouping.specs.Ranges.{InRange, Fits, Limited}
use Rattle.grouping.proofs.Distances.{apart_high}
use Rattle.grouping.proofs.Endings.{fit_ranged, distortion_natural}
use Rattle.grouping.proofs.Totaled.{modest_entries, weight_low, weight_high, sum_low, sum_high}
use Rattle.grouping.proofs.Totals.{all_of, total_rises, total_scaled, held_high}

-- records of any kind whose laws keep to them, few enough, are within the limits
pub limited_entries : {R : Type 0} (kindP : PointGhosts R) (kindR : RecordGhosts R) → kindP.AXES ≤ 4 →
    ((p : R) → length (kindP.place p) ≡ kindP.AXES) →
    ((p : R) (k : ℕ) → (negsuc 32767 ≤ℤ get_or (kindP.place p) k (pos 0)) × (get_or (kindP.place p) k (pos 0) ≤ℤ pos 32767)) →
    ((r : R) → (1 ≤ kindR.hold r) × (kindR.hold r ≤ 65535)) →
    (rs : List R) → length rs ≤ 4096 → Limited kindP.AXES (entries kindP kindR rs)
limited_entries kindP kindR short sized ranged held rs few =
    record {
      short = short;
      few = omega (arith, length-map rs (λ r. entry kindP kindR r));
      held = (modest_entries kindP kindR ranged held rs).held;
      fit = All-map (λ e. Fits kindP.AXES e.place) (λ r. entry kindP kindR r) rs (all_of (λ r. (sized r, All-from_get_or InRange (kindP.place r) (pos 0) (λ i l. ranged r i))) rs);
    }

pub weight_bound : WeightBound
weight_bound axes es cs k l = (weight_low cs k es, omega (arith, ints, weight_high cs k es l.held, l.few))

pub sum_bound : SumBound
sum_bound axes es cs k axis l =
    let r = fit_ranged axes es l.fit in
    let w = weight_high cs k es l.held in
    (omega (arith, ints, sum_low cs k es axis r, w, l.few), omega (arith, ints, sum_high cs k es axis r, w, l.few))

dist_high : (p c : Place) → AllByRecursion InRange p → AllByRecursion InRange c → dist p c ≤ℤ pos (65535 * 65535 * length p)
dist_high [] c h k = omega (arith, lin)
dist_high (x ∷ p) [] h k = omega (arith, lin)
dist_high (x ∷ p) (y ∷ c) h k = omega (arith, lin, apart_high x y (omega (arith, ints, h.0.0, h.0.1)) (omega (arith, ints, k.0.0, k.0.1)), dist_high p c h.1 k.1)

center_range : (axes : ℕ) (cs : List Place) (k : ℕ) → AllByRecursion (Fits axes) cs → AllByRecursion InRange (center cs k)
center_range axes [] k h = tt
center_range axes (c ∷ cs) zero h = h.0.1
center_range axes (c ∷ cs) (suc k) h = center_range axes cs k h.1

pub distortion_bound : DistortionBound
unfolding distortion
distortion_bound axes es cs l f =
    let most : ℤ = pos (65535 * 65535 * 4) in
    let all = held_high es l.held in
    let flat = total_scaled (λ p. true) most es in
    let up = total_rises (Fits axes) (λ p. dist p (center cs (choose cs p))) (λ p. most) (λ p h. omega (arith, ints, dist_high p (center cs (choose cs p)) h.1 (center_range axes cs (choose cs p) f), h.0, l.short)) es l.fit in
    (distortion_natural es cs, omega (arith, ints, l.few))
