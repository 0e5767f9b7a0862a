use Rattle.std.proofs.Common.{◌≡◌, ℕ, ℤ, pos, ◌*ℤ◌, rules}
use Rattle.numbers.proofs.Made.{made_at}
use Rattle.grouping.specs.Distance.{number}
use Rattle.boxes.specs.declared.run.Quantity.TheVariants.{Weight, Sum, Squares}
use Rattle.walk.proofs.totals.of_record.Goals as goal

pub returns : goal.returns
returns g c Weight h = search rules
returns g c (Sum axis) h =
    made_at _ _ (λ (i : ℕ) (z : ℤ). z ≡ pos (g.R.Record.hold c.args.r.now) *ℤ number (g.R.Point.place c.args.r.now) i) (λ i z q k. search rules) c.from_fn.result 4 axis (pos 0) c.from_fn.ensures.items h
returns g c Squares h = search rules
