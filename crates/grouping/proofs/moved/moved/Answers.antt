use Rattle.std.proofs.Common.{ℕ, ◌<◌, ℤ, pos, arith, w16, SFits, rules}
use Rattle.numbers.proofs.Made.{made_at}
use Rattle.grouping.specs.Groups.{Goes}
use Rattle.grouping.proofs.Moves.{goes_at}
use Rattle.grouping.proofs.moved.moved.Goals as goal

pub returns-clause-goes : goal.returns-clause-goes
returns-clause-goes g c a h =
    let group = c.args.group.now in
    let at = c.from_fn.result in
    let few : a < 4 = omega (arith, g.met.R.Point.few.1) in
    let goes = made_at _ _ (λ (i : ℕ) (z : ℤ). SFits w16 z × (i < g.R.Point.AXES → Goes group i z)) (λ i z q k. search rules) at 4 a (pos 0) c.from_fn.ensures.items few in
    goes_at group (record { at = at }) a few goes.0 (goes.1 h)
