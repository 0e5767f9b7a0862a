use Rattle.std.proofs.Common.{◌/◌, ap, w16, SFits, rules}
use Rattle.points.specs.Kinds.{position_place}
use Rattle.grouping.specs.Distance.{number}
use Rattle.boxes.specs.Widths.{width_on}
use Rattle.boxes.proofs.Widths.{middle_is, ranged}
use Rattle.boxes.proofs.width.middle_at.Goals as goal

pub returns : goal.returns
unfolding width_on
returns c some =
    let b = c.args.bounds.now in
    let fits : SFits w16 c.axis.result = search rules in
    let low = ranged b.least c.args.axis in
    let high = ranged b.greatest c.args.axis in
    middle_is (number (position_place b.least) c.args.axis) (number (position_place b.greatest) c.args.axis) c.axis.result c.min.result (c.width_at-half.result / 2) fits low.1 high.1 low.0 c.axis.ensures (ap (λ w. w / 2) c.width_at-half.ensures.is) some c.min.ensures.value
