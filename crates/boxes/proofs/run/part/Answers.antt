use Rattle.std.proofs.Common.{◌<◌, length, sym, ◌∙◌, rules}
use Rattle.std.proofs.ByRecursion.{All-get_or}
use Rattle.std.proofs.ByRecursion.{all_shuffled}
use Rattle.points.specs.Entries.{entries}
use Rattle.boxes.proofs.Partings.{parted_keeps, parted_swaps}
use Rattle.boxes.proofs.run.part.Goals as goal
use Rattle.boxes.proofs.run.part.Goals.{then-is_below, else-is_below}

pub is_below-requires : goal.is_below-requires
is_below-requires g c =
    let il : c.loop-i.i < length c.loop-i.run = search rules in
    All-get_or (λ n. n < length c.args.records.now) c.loop-i.run c.loop-i.i 0 il (all_shuffled (λ n. n < length c.args.records.now) c.args.run.now c.loop-i.run c.loop-i.invariant.shuffled c.requires)

pub loop-i-preserved : goal.loop-i-preserved
loop-i-preserved g c =
    let es = entries g.R.Point g.R.Record c.args.records.now in
    elim c.if-is_below.branch [
      | then-is_below w ↦ simp (w.k-is, w.run-is) (parted_swaps es c.args.cut.now c.args.run.now c.loop-i.run c.loop-i.k c.loop-i.i c.loop-i.invariant (sym c.is_below.ensures ∙ w.if-is_below.true) w.swap.new.self w.swap.ensures.permutation w.swap.ensures.len (w.swap.ensures.by_index.0 0) (w.swap.ensures.by_index.1 0) (λ j a b. w.swap.ensures.by_index.2 j 0 a b))
      | else-is_below w ↦ simp (w.k-is, w.run-is) (parted_keeps es c.args.cut.now c.args.run.now c.loop-i.run c.loop-i.k c.loop-i.i c.loop-i.invariant (sym c.is_below.ensures ∙ w.if-is_below.false))
    ]
