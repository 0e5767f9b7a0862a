use Rattle.std.proofs.Common.{◌≡◌, ℕ, ◌<◌, ◌≤◌, length, ap, ◌∙◌, subst, arith, w64, SFits}
use borrow.Author.Differences.{ints}
use Rattle.std.proofs.lemmas.List.{length-map}
use Rattle.std.proofs.lemmas.Int.{to_z-of_z}
use Rattle.numbers.proofs.Sums.{length_mapped}
use Rattle.points.specs.Entries.{entry}
use Rattle.grouping.specs.Distance.{number}
use Rattle.grouping.specs.Groups.{place_of}
use Rattle.grouping.proofs.Bounds.{limited_entries, weight_bound}
use Rattle.boxes.specs.Regions.{boxes_after, contents}
use Rattle.boxes.specs.Standing.{cuts_of, entries_of}
use Rattle.boxes.proofs.Sides.{box_length}
use Rattle.boxes.proofs.Tables.{has_runs, stands}
use Rattle.pruning.specs.Centers.{positions_of, centers_of}
use Rattle.pruning.specs.Pruning.{numbers_of}
use Rattle.pruning.proofs.Listed.{length_centers}
use Rattle.walk.specs.Costs.{Costs, Counted}
use Rattle.walk.specs.Growth.{Grown}
use Rattle.walk.specs.Visits.{box_of, cuts_in, all_entries, entries_in, centers_in, candidates_in}
use Rattle.walk.proofs.Exactness.{contents_all, weight_exact, sum_exact, distortion_exact, centers_fit}
use Rattle.walk.proofs.Work.{at_most}
use Rattle.walk.proofs.survey.survey_groups.Goals as goal

pub returns : goal.returns
returns g c =
    let axes = g.R.Point.AXES in
    let t = c.args.table.now in
    let centers = c.args.centers.now in
    let cs = centers_of axes centers in
    let r = c.root.result in
    let rs = t.recording.records.now in
    let es = entries_of t in
    let cuts = cuts_of t in
    let prunes = g.T.Rule.prunes c.args.rule.now in
    let found = c.tally.new.out in
    let empty = c.new-found.result in
    let limited = limited_entries g.R.Point g.R.Record g.met.R.Point.few.1 g.met.R.Point.sized g.met.R.Point.ranged g.met.R.Record.held rs t.recording.few in
    let many : length cs ≡ centers.count = length_centers axes centers in
    let some : 0 < length cs = omega (arith, many, centers.some) in
    let few : length cs ≤ 32 = omega (arith, many, centers.few) in
    let same : centers_in r ≡ cs = ap (centers_of axes) c.root.ensures.centers in
    let names : candidates_in r ≡ numbers_of cs = c.root.ensures.all ∙ ap numbers_of same in
    let grown : Grown cs es empty.groups found.groups = subst (λ fs. Grown cs fs empty.groups found.groups) (contents_all cuts es) (subst (λ b. Grown cs (contents cuts b es) empty.groups found.groups) c.root.ensures.box_is
    (subst (λ u. Grown cs (contents (cuts_of u) (box_of r) (entries_of u)) empty.groups found.groups) c.root.ensures.table (subst (λ ds. Grown ds (entries_in r) empty.groups found.groups) same c.tally.ensures.grown))) in
    let counted : Counted prunes axes es cs cuts 0 (numbers_of cs) empty found = subst (λ ks. Counted prunes axes es cs cuts 0 ks empty found) names (subst (λ b. Counted prunes axes es cs cuts b (candidates_in r) empty found) c.root.ensures.box_is
    (subst (λ u. Counted prunes axes (entries_of u) cs (cuts_of u) (box_of r) (candidates_in r) empty found) c.root.ensures.table (subst (λ ds. Counted prunes axes (all_entries r) ds (cuts_in r) (box_of r) (candidates_in r) empty found) same c.tally.ensures.counted))) in
    let entries : length es ≡ length rs = length-map rs (λ x. entry g.R.Point g.R.Record x) in
    let filled : (b : ℕ) → b < boxes_after cuts → 0 < length (contents cuts b es) = λ b l. omega (arith, box_length t b l, (has_runs t b l).0) in
    let most = at_most prunes axes es cs cuts (stands t).log filled counted.costs (omega arith) (omega (arith, few, length_mapped (λ k x. k) 0 cs)) in
    let whole : length (contents cuts 0 es) ≤ 4096 = omega (arith, ap length (contents_all cuts es), entries, t.recording.few) in
    let d : counted.distances ≡ found.distances = omega (arith, counted.distances_are, c.new-found.ensures.distances, found.near, most.0, whole) in
    let q : counted.queries ≡ found.queries = omega (arith, counted.queries_are, c.new-found.ensures.queries, found.asked, most.1, whole) in
    let fits : SFits w64 c.distortion_of.result = record { sfits = c.distortion_of.type_inv } in
    let weigh = weight_exact axes es cs limited empty.groups found.groups c.new-found.ensures.groups found.fits grown in
    let summed = sum_exact axes es cs limited empty.groups found.groups c.new-found.ensures.groups found.fits grown in
    let told = c.groups_of.ensures in
    let at : (k : ℕ) → k < length cs → k < length (positions_of centers) = λ k l. omega (arith, length-map (positions_of centers) (place_of axes)) in
    record {
      center = λ k l. (told k l).center;
      tallied = record {
        weighs = λ k l.
            let w = weigh k (omega (arith, few)) in
            let b = weight_bound axes es cs k limited in
            (told k (at k l)).weight (omega (arith, ints, w, b.0)) (omega (arith, ints, w, b.1)) ∙ w;
        sums = λ k axis l h. ap (λ xs. number xs axis) (told k (at k l)).sums ∙ summed k axis (omega (arith, few)) h;
      };
      cost = to_z-of_z w64 c.distortion_of.result fits ∙ distortion_exact axes es cs limited empty.groups found.groups c.new-found.ensures.groups found.fits grown c.distortion_of.result fits some few (centers_fit axes g.met.R.Point.few.1 (positions_of centers)) c.distortion_of.ensures;
      work = subst (λ n. Costs prunes axes es cs cuts 0 (numbers_of cs) n found.queries) d (subst (Costs prunes axes es cs cuts 0 (numbers_of cs) counted.distances) q counted.costs);
    }
