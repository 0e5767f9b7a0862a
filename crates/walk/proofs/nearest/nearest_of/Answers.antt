use Rattle.std.proofs.Common.{◌<◌, length, subst, arith}
use Rattle.std.proofs.ByRecursion.{all-has}
use Rattle.grouping.specs.Groups.{place_of}
use Rattle.pruning.specs.Candidates.{listed, among}
use Rattle.pruning.specs.Pruning.{Leader}
use Rattle.pruning.proofs.Listed.{candidates_fit, length_centers}
use Rattle.walk.proofs.Places.{leader_chosen}
use Rattle.walk.proofs.nearest.nearest_of.Goals as goal

pub returns : goal.returns
returns g c =
    let axes = g.R.Point.AXES in
    let s = c.args.candidates.now in
    let p = g.R.Point.place c.args.r.now in
    let here = c.position_of-here.result in
    let l = c.leader.result.number in
    let leads = subst (λ a. Leader (place_of a here) (place_of a here) (among a s) (listed s) l) c.AXES.ensures c.leader.ensures.leads in
    let fit = candidates_fit axes s in
    record {
      chosen = leader_chosen (among axes s) (listed s) p (place_of axes here) (place_of axes here) l c.position_of-here.ensures c.position_of-here.ensures fit.known leads;
      known = omega (arith, all-has (λ k. k < length (among axes s)) (listed s) l fit.known leads.one_of, length_centers axes s.centers.now, s.centers.now.few);
    }
