use Rattle.std.proofs.Common.{[], ◌∷◌, ap₂, arith}
use Rattle.std.proofs.lemmas.Int.{ints}
use Rattle.points.specs.Telegrams.{gap_range, length_range, hold_range}
use Rattle.points.proofs.Ranged.{admitted, kept, kept_natural}
use Rattle.points.proofs.telegram.TelegramRecord.new.Goals as goal

pub returns : goal.returns
returns c =
    let g = admitted gap_range c.in_ok-gap.gap c.args.gap c.ranges.gap c.in_ok-gap.ensures in
    let l = admitted length_range c.in_ok-length.length c.args.length c.ranges.length c.in_ok-length.ensures in
    let h = admitted hold_range c.in_ok-hold.hold c.args.hold c.ranges.hold c.in_ok-hold.ensures in (
      (g.1, (l.1, h.1)),
      (
        ap₂ (λ x y. x ∷ y ∷ []) (kept gap_range _ _ g.0 g.1 (omega (arith, ints)) (omega (arith, ints))) (kept length_range _ _ l.0 l.1 (omega (arith, ints)) (omega (arith, ints))),
        kept_natural hold_range _ _ h.0 h.1 (omega (arith, ints)) (omega (arith, ints)),
      ),
    )
