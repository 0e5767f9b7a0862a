use Rattle.std.proofs.Common.{pos, ◌*ℤ◌, ◌∙◌, ap₂, arith}
use Rattle.boxes.proofs.Measures.{times_fits}
use Rattle.boxes.proofs.run.amount.Goals as goal

pub returns : goal.returns
returns g c =
    let t = times_fits c.hold.result c.measure.result (omega arith) c.measure.ensures.low c.measure.ensures.high in
    record {
      is = t.is ∙ ap₂ (λ h x. pos h *ℤ x) c.hold.ensures c.measure.ensures.is;
      low = t.low;
      high = t.high;
    }
