use Rattle.std.proofs.Common.{◌≡◌, pos, refl, lit<, w64}
use Rattle.std.specs.Int.{int_wrap}
use Rattle.walk.specs.Told.{told}
use Rattle.walk.proofs.Adding.{at_equal, rows_equal, empty_told, blank_told, zero_fits}
use Rattle.walk.proofs.tally.Tally.new.Goals as goal

pub invariant_of-result : goal.invariant_of-result
invariant_of-result c =
    let t = c.default.result in
    let (w, (zs, s)) = c.default.ensures in
    let none = empty_told t w zs.long (λ i l. zs.at i (pos 0) l) s in
    record {
      long = refl;
      rows = λ k l. rows_equal t zs.long 32 k l;
      near = lit< tt;
      asked = lit< tt;
      fits = λ q k. at_equal (λ u. told q u ≡ int_wrap w64 (told q u)) t (zero_fits q t (none q)) (zero_fits q _ (blank_told q)) 32 k;
    }

pub returns-clause-groups : goal.returns-clause-groups
returns-clause-groups c q k =
    let t = c.default.result in
    let (w, (zs, s)) = c.default.ensures in
    at_equal (λ u. told q u ≡ pos 0) t (empty_told t w zs.long (λ i l. zs.at i (pos 0) l) s q) (blank_told q) 32 k
