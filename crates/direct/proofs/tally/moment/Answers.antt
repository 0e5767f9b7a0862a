use Rattle.std.proofs.Common.{◌≤◌, pos, ◌*ℤ◌, neg_ℤ, ◌≤ℤ◌, sym, ◌∙◌, subst, ap₂, arith, w16, SFits, rules}
use Rattle.direct.proofs.Adding.{moment_is, moment_low, moment_high}
use Rattle.direct.proofs.tally.moment.Goals as goal

pub returns : goal.returns
returns g c =
    let h = c.hold.result in
    let x = c.axis.result in
    let small : h ≤ 65535 = omega (arith, (g.met.R.Record.held c.args.r.now).1, c.hold.ensures) in
    let fits : SFits w16 x = search rules in
    let is = moment_is h x small fits in
    record {
      is = is ∙ ap₂ (λ y z. pos y *ℤ z) c.hold.ensures c.axis.ensures;
      low = subst (λ z. neg_ℤ (pos 2147450880) ≤ℤ z) (sym is) (moment_low h x small fits);
      high = subst (λ z. z ≤ℤ pos 2147450880) (sym is) (moment_high h x small fits);
    }
