use Rattle.std.proofs.Common.{◌≡◌, ℕ, ℤ, Some, sym, ap, ◌∙◌, subst, w16, SFits, rules}
use Rattle.std.specs.Int.{int_max}
use Rattle.std.specs.List.{reduce}
use Rattle.std.specs.Iterator.Adapters.{map_source}
use Rattle.std.specs.Option.{option_map}
use Rattle.std.specs.Slice.Iter.{iter_rest}
use Rattle.std.specs.Ordering.{int_cmp, max_by_ordering}
use Rattle.std.proofs.lemmas.Int.{to_z-of_z}
use Rattle.std.proofs.lemmas.Iterator.{YieldsList-from_map, YieldsList-from_slice}
use Rattle.std.proofs.lemmas.Iterator.Consumers.{reduce_by_from_yields_List}
use Rattle.points.specs.Entries.{entries}
use Rattle.grouping.specs.Distance.{number}
use Rattle.boxes.specs.Runs.{entry_at, picked}
use Rattle.boxes.specs.Tells.{numbers_on, Highest}
use Rattle.boxes.proofs.Extremes.{max_of, highest_max, numbers_picked}
use Rattle.boxes.proofs.run.Run.greatest_on.Goals as goal

pub returns : goal.returns
returns g c =
    let es = entries g.R.Point g.R.Record c.args.self.records.now in
    let ns = c.args.self.numbers.now in
    let m = c.unwrap.result in
    let on : ℕ → ℤ = λ i. number (entry_at es i).place c.args.a in
    let least = reduce_by_from_yields_List (λ x y. max_by_ordering (int_cmp x y) x y) int_max c.map.result c.max.result max_of c.max.ensures.ran (YieldsList-from_map {s = c.map.result} _ on (YieldsList-from_slice {s = map_source c.map.result} ns (ap iter_rest c.map.ensures.source ∙ c.iter.ensures.rest)) c.map.ensures.closure (λ x r q e. search rules)) in
    let is : Some m ≡ reduce int_max (numbers_on c.args.a (picked es ns)) = sym (ap (option_map (λ z. z)) c.unwrap.ensures) ∙ least ∙ ap (reduce int_max) (numbers_picked c.args.a es ns) in
    let fits : SFits w16 m = search rules in
    subst (Highest c.args.a (picked es ns)) (sym (to_z-of_z w16 m fits)) (highest_max c.args.a (picked es ns) m is)
