use Rattle.std.proofs.Common.{◌≡◌, ℕ, ◌<◌, length, get_or, ℤ, ◌∙◌, refl, sym, ap, inl, inr, arith, rules}
use borrow.Author.Differences.{ints}
use Rattle.std.proofs.lemmas.Int.{by_lt_z}
use Rattle.std.proofs.lemmas.Bool.{cases_lt}
use Rattle.std.proofs.lemmas.Option.{MatchOption-at_some}
use Rattle.numbers.proofs.Firsts.{first_least}
use Rattle.numbers.proofs.Ring.{lin}
use Rattle.grouping.specs.Boxes.{near}
use Rattle.grouping.specs.Choice.{center}
use Rattle.pruning.specs.Candidates.{listed, among}
use Rattle.pruning.specs.Positions.{lows_of, highs_of}
use Rattle.pruning.proofs.Listed.{candidates_fit}
use Rattle.pruning.proofs.leader.leader.Goals as goal

pub returns-clause-leads : goal.returns-clause-leads
returns-clause-leads c =
    let r = c.args.region.now in
    let s = c.args.candidates.now in
    let ks = listed s in
    let cs = among r.axes s in
    let fit = candidates_fit r.axes s in
    let key : ℕ → ℤ = λ i. near (lows_of r) (highs_of r) (center cs (get_or ks i 0)) in
    let h = first_least _ _ key _ (λ i z f' l k.
    let m : i < length ks = omega (arith, c.count.ensures.is) in
    let same : f' ≡ (c.args.region, c.args.candidates) = search rules in
    let is : z ≡ key i = search rules in
    (same, is)) _ _ refl c.min_by_key.ensures.ran in
    let f = MatchOption-at_some _ _ c.unwrap-first.result c.unwrap-first.ensures h in
    let there : c.unwrap-first.result < length ks = omega (arith, c.count.ensures.is, f.there) in
    let at = c.get.ensures.at there in
    record {
      one_of = c.get.ensures.one;
      nearest = λ j has other.
          let e : get_or ks has.0 0 ≡ j = has.2 0 in
          let l = c.get.result.number in
          let far = near (lows_of r) (highs_of r) in
          let kl : key c.unwrap-first.result ≡ far (center cs l) = ap (λ k. far (center cs k)) (sym at) in
          let kj : key has.0 ≡ far (center cs j) = ap (λ k. far (center cs k)) e in
          let least = f.least has.0 (omega (arith, c.count.ensures.is, has.1)) in
          by_lt_z (far (center cs l)) (far (center cs j)) (λ nearer. inl nearer) (λ most.
          inr (
            omega (arith, ints, lin, kl, kj, least, most),
            elim (cases_lt has.0 c.unwrap-first.result) [
              | inl before ↦ absurd (omega (arith, ints, lin, kl, kj, f.first has.0 before, most))
              | inr after ↦ elim (cases_lt c.unwrap-first.result has.0) [
                | inl behind ↦ omega (arith, at, e, fit.rises c.unwrap-first.result has.0 behind has.1)
                | inr not_behind ↦ let same : has.0 ≡ c.unwrap-first.result = omega arith in absurd (other (sym e ∙ ap (λ k. get_or ks k 0) same ∙ sym at))
              ]
            ],
          ));
    }

pub returns-clause-stands : goal.returns-clause-stands
returns-clause-stands c = c.get.ensures.stands c.args.region.now.axes
