use Rattle.std.proofs.Common.{◌≡◌, ◌≤◌, ℕ, ℤ, pos, neg_ℤ, w64, to_z, refl, ap, ◌∙◌, arith, rules}
use Rattle.std.proofs.lemmas.Int.{ints, to_z_pos}
use Rattle.std.proofs.lemmas.Option.{MatchOption-at_some}
use Rattle.numbers.proofs.Firsts.{first_least}
use Rattle.boxes.specs.Widths.{width_on}
use Rattle.boxes.proofs.width.widest_axis.Goals as goal

pub returns : goal.returns
returns c =
    let b = c.args.bounds.now in
    let key : ℕ → ℤ = λ a. neg_ℤ (pos (width_on b a)) in
    let h = first_least _ _ key c.args.axes
    (λ i z f' l k.
    let is : z ≡ neg_ℤ (to_z w64 (width_on b i)) = search rules in
    let small : width_on b i ≤ 65535 = search rules in
    (search rules, is ∙ ap neg_ℤ (to_z_pos w64 (width_on b i) (omega arith))))
    _ _ refl c.min_by_key.ensures.ran in
    let f = MatchOption-at_some _ _ c.unwrap.result c.unwrap.ensures h in
    record { within = f.there; most = λ k l. omega (arith, ints, f.least k l); first = λ k l. omega (arith, ints, f.first k l) }
