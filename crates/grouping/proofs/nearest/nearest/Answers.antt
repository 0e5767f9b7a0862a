use Rattle.std.proofs.iter.Serving.{serving}
use Rattle.std.proofs.Common.{◌≡◌, length, sym, refl, ap, ◌∙◌, rules}
use Rattle.std.proofs.lemmas.List.{length-map}
use Rattle.numbers.proofs.Firsts.{first_least}
use Rattle.grouping.specs.Distance.{dist}
use Rattle.grouping.specs.Choice.{center}
use Rattle.grouping.specs.Groups.{places, place_of, group_at}
use Rattle.grouping.proofs.Choosing.{chosen_first}
use Rattle.grouping.proofs.Grouped.{center_at}
use Rattle.grouping.proofs.nearest.nearest.Goals as goal

pub returns : goal.returns
returns g c =
    let p = g.R.Point.place c.args.r.now in
    let axes = g.R.Point.AXES in
    let gs = c.args.groups.now in
    let cs = places axes gs in
    chosen_first cs p (length gs) _ (length-map gs (λ h. place_of axes h.center))
    (first_least _ _ (λ i. dist p (center cs i)) (length gs)
    (λ i z f' l k. let h : (f' ≡ (c.args.r, c.args.groups)) × (z ≡ dist p (place_of axes (group_at gs i).center)) = search rules in (h.0, h.1 ∙ ap (dist p) (sym (center_at axes gs i l))))
    _ _ refl c.min_by_key.ensures.ran)

pub min_by_key-requires-clause-callable : goal.min_by_key-requires-clause-callable
min_by_key-requires-clause-callable g c = grind serving
