use Rattle.std.proofs.Common.{sym, arith, w16, SFits, rules}
use Rattle.points.specs.Kinds.{position_place}
use Rattle.grouping.specs.Distance.{number}
use Rattle.boxes.specs.Widths.{width_on}
use Rattle.boxes.proofs.Widths.{apart_none, apart_cast, apart_uncast}
use Rattle.boxes.proofs.width.width_at.Goals as goal

pub returns-then-greatest-least : goal.returns-then-greatest-least
unfolding width_on
returns-then-greatest-least c =
    let b = c.args.bounds.now in
    let low : SFits w16 c.axis-least.result = search rules in
    let high : SFits w16 c.axis-greatest.result = search rules in
    let w = apart_cast (number (position_place b.least) c.args.axis) (number (position_place b.greatest) c.args.axis) c.axis-least.result c.axis-greatest.result low high c.axis-least.ensures c.axis-greatest.ensures c.if-greatest-least.true in
    record { is = w.0; small = omega (arith, w.0, w.1) }

pub returns-else-greatest-least : goal.returns-else-greatest-least
unfolding width_on
returns-else-greatest-least c =
    let b = c.args.bounds.now in
    let low : SFits w16 c.axis-least.result = search rules in
    let high : SFits w16 c.axis-greatest.result = search rules in
    let lo = number (position_place b.least) c.args.axis in
    let hi = number (position_place b.greatest) c.args.axis in
    record { is = sym (apart_none lo hi (apart_uncast lo hi c.axis-least.result c.axis-greatest.result low high c.axis-least.ensures c.axis-greatest.ensures c.if-greatest-least.false)); small = omega arith }
