use Rattle.std.proofs.Common.{◌≡◌, ℕ, ℤ, pos, sym, ◌∙◌, w16, SFits, rules}
use Rattle.numbers.proofs.Made.{made_at}
use Rattle.points.specs.Told.{told_same}
use Rattle.grouping.specs.Distance.{number}
use Rattle.walk.proofs.Places.{place_at}
use Rattle.walk.proofs.nearest.position_of.Goals as goal

pub returns : goal.returns
returns g c =
    let p = g.R.Point.place c.args.r.now in
    let at = c.from_fn.result in
    let made = made_at _ _ (λ (i : ℕ) (z : ℤ). SFits w16 z × (z ≡ number p i)) (λ i z q k. search rules) at 4 in
    place_at g.R.Point.AXES p at g.met.R.Point.few.1 (g.met.R.Point.sized c.args.r.now)
    (λ j l. let h = made j (pos 0) c.from_fn.ensures.items l in sym (told_same _ h.0) ∙ h.1)
