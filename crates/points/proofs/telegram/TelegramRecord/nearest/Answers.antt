use Rattle.std.proofs.Common.{[], ◌∷◌, ap₂, arith}
use Rattle.std.proofs.lemmas.Int.{ints}
use Rattle.points.specs.Telegrams.{gap_range, length_range}
use Rattle.points.proofs.Ranged.{brought, kept, nearest_within}
use Rattle.points.proofs.telegram.TelegramRecord.nearest.Goals as goal

pub returns-clause-place : goal.returns-clause-place
returns-clause-place c =
    let g = brought gap_range c.nearest-gap.result c.args.gap c.ranges.gap c.nearest-gap.ensures in
    let l = brought length_range c.nearest-length.result c.args.length c.ranges.length c.nearest-length.ensures in
    ap₂ (λ x y. x ∷ y ∷ []) (kept gap_range _ _ g (nearest_within gap_range c.args.gap (omega (arith, ints))) (omega (arith, ints)) (omega (arith, ints))) (kept length_range _ _ l (nearest_within length_range c.args.length (omega (arith, ints))) (omega (arith, ints)) (omega (arith, ints)))
