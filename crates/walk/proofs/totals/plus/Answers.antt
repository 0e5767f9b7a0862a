use Rattle.std.proofs.Common.{◌≡◌, ℕ, ◌<◌, ℤ, pos, ◌+ℤ◌, w64, rules}
use Rattle.std.specs.Int.{int_wrap}
use Rattle.std.proofs.lemmas.Int.{wraps}
use Rattle.numbers.proofs.Made.{made_at}
use Rattle.grouping.specs.Distance.{number}
use Rattle.walk.proofs.Adding.{plus_told, plus_fits}
use Rattle.walk.proofs.totals.plus.Goals as goal

pub returns : goal.returns
returns c =
    let a = c.args.a.now in
    let b = c.args.b.now in
    let zs = c.from_fn.result in
    let each : (i : ℕ) → i < 4 → number zs i ≡ int_wrap w64 (number a.sums i +ℤ number b.sums i) = λ i l. made_at _ _ (λ (j : ℕ) (z : ℤ). z ≡ int_wrap w64 (number a.sums j +ℤ number b.sums j)) (λ j z q k. search (rules, wraps)) zs 4 i (pos 0) c.from_fn.ensures.items l in
    record { sum = plus_told a b _ (search (rules, wraps)) (search (rules, wraps)) each; fits = plus_fits a b _ (search (rules, wraps)) (search (rules, wraps)) each c.from_fn.ensures.items.long; long = c.from_fn.ensures.items.long }
