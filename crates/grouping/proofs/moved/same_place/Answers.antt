use Rattle.std.proofs.Common.{◌≡◌, ℕ, refl, arith, rules}
use Rattle.std.proofs.lemmas.Iterator.{YieldsList-from_range, cases_from_all}
use borrow.Author.Tests.{tests}
use Rattle.numbers.proofs.Indices.{each_index}
use Rattle.points.specs.Kinds.{position_place}
use Rattle.grouping.specs.Distance.{number}
use Rattle.grouping.proofs.Moves.{one_place}
use Rattle.grouping.proofs.moved.same_place.Goals as goal

pub returns : goal.returns
returns g c =
    let p = c.args.p.now in
    let q = c.args.q.now in
    let n = c.AXES.result in
    let Same : ℕ → Type 0 = λ j. number (position_place p) j ≡ number (position_place q) j in
    let Apart : ℕ → Type 0 = λ j. Same j → ⊥ in
    let each = cases_from_all _ _ _ Same Apart c.all.ensures.ran (YieldsList-from_range 0 n n refl (omega arith)) (λ x r k. search (rules, tests)) (λ x r k. search (rules, tests)) in
    let h = one_place g.R.Point.AXES n p q c.all.result c.AXES.ensures g.met.R.Point.few.1 (each_index n c.all.result Same Apart each) in
    record { same = h.0; other = h.1 }
