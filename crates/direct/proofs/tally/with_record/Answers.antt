use Rattle.std.proofs.Common.{◌≡◌, ◌+◌, ◌<◌, ◌≤◌, ℕ, ℤ, pos, ◌+ℤ◌, ◌*ℤ◌, refl, ap, ◌∙◌, arith, w16, w64, SFits, to_z, of_z, rules}
use borrow.Author.Differences.{ints}
use Rattle.numbers.proofs.Made.{made_at}
use Rattle.grouping.specs.Distance.{number}
use Rattle.direct.proofs.Adding.{moment_low, moment_high, sum_is}
use Rattle.direct.proofs.tally.with_record.Goals as goal

pub returns : goal.returns
returns g c =
    let group = c.args.group.now in
    let r = c.args.r.now in
    let hold = g.R.Record.hold r in
    let place = g.R.Point.place r in
    let few : hold ≤ 65535 = (g.met.R.Record.held r).1 in
    let Sum : ℕ → ℤ → Type 0 = λ i z. i < 4 → z ≡ number group.sums i +ℤ pos hold *ℤ number place i in
    record {
      center = refl;
      weight = ap (λ n. group.weight + n) c.hold.ensures;
      sums = λ axis h. made_at _ _ Sum
          (λ i z q k. (
            search rules,
            λ l.
                let fits : SFits w16 (number place i) = omega (arith, ints, g.met.R.Point.ranged r i) in
                let is : z ≡ to_z w64 (of_z w64 (to_z w64 (of_z w64 (number group.sums i)) +ℤ to_z w64 (of_z w64 (pos hold *ℤ number place i)))) = search rules in
                is ∙ sum_is (number group.sums i) (pos hold *ℤ number place i) (c.requires.low i l) (c.requires.high i l) (moment_low hold (number place i) few fits) (moment_high hold (number place i) few fits),
          ))
          c.from_fn.result 4 axis (pos 0) c.from_fn.ensures.items h h;
    }
