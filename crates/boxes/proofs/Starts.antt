-- The table before the first cut.
use Rattle.std.proofs.Common.{◌≡◌, ℕ, ◌<◌, ◌≤◌, ◌&&◌, ltb, leb, List, [], ◌∷◌, length, get_or, take, Some, None, sym, refl, ap, ◌∙◌, subst, arith}
use Rattle.std.specs.List.{range_with_len}
use Rattle.std.specs.List.Sorted.{IsPermutation}
use Rattle.std.proofs.lemmas.List.FromFn.{get_or-range_with_len, length-range_with_len}
use Rattle.std.proofs.lemmas.List.{get_or-take, length-take-le, ext_get_or}
use Rattle.std.proofs.lemmas.List.Sorted.{IsPermutation-refl}
use Rattle.std.proofs.lemmas.Bool.{lt-ltb, le-leb, and_from}
use Rattle.points.specs.Entries.{Entry}
use Rattle.boxes.specs.declared.node.BoxNode.{BoxNode}
use Rattle.boxes.specs.Regions.{holds, contents}
use Rattle.boxes.specs.Runs.{entry_at, picked}
use Rattle.boxes.specs.Agreement.{Agrees}
use Rattle.boxes.specs.Table.{node_at}
use Rattle.boxes.specs.Tells.{BoundsOf, TalliesOf}
use Rattle.boxes.proofs.Regions.{holds_root}
use Rattle.boxes.proofs.Sameness.{picked_all}

-- box 0 has all entries
pub contents_root : (es : List Entry) → contents [] 0 es ≡ es
contents_root [] = refl
contents_root (e ∷ es) = rw (holds_root [] e.place) (ap (λ fs. e ∷ fs) (contents_root es))

module _ (order : List ℕ) (long : length order ≡ 4096) (each : (k : ℕ) → k < 4096 → get_or order k 0 ≡ k) (n : ℕ) (few : n ≤ 4096) where
  pub in_order : take n order ≡ range_with_len 0 n
  in_order =
      let l : length (take n order) ≡ n = length-take-le n order (omega arith) in
      ext_get_or 0 (take n order) (range_with_len 0 n) (l ∙ sym (length-range_with_len 0 n))
      (λ i h. let k : i < n = omega arith in omega (arith, get_or-take n order i 0 k, each i (omega arith), get_or-range_with_len 0 n i 0 k))

-- the table with one box
module _ (es : List Entry) (ns : List BoxNode) (order : List ℕ) (root : BoxNode) (is : node_at ns 0 ≡ root) (numbers : take (length es) order ≡ range_with_len 0 (length es))
    (from : root.from ≡ 0) (to : root.to ≡ length es) (uncut : root.cut ≡ None)
    (bounds : BoundsOf (picked es (take (length es) order)) root.bounds) (tallies : TalliesOf (picked es (take (length es) order)) root.tallies) where
  only : (b : ℕ) → b < 1 → node_at ns b ≡ root
  only b l = let e : b ≡ 0 = omega arith in ap (node_at ns) e ∙ is

  all_entries : (b : ℕ) → b < 1 → contents [] b es ≡ picked es (take (length es) order)
  all_entries b l = let e : b ≡ 0 = omega arith in ap (λ c. contents [] c es) e ∙ contents_root es ∙ sym (ap (picked es) numbers ∙ picked_all es)

  pub agrees_new : Agrees es [] ns order
  agrees_new =
      record {
        log = record { stood = λ i l. absurd (omega arith); once = λ i j l m. absurd (omega arith) };
        cut_by = λ b i l e. absurd (let z : ◌≡◌ {A = ℕ} 0 1 = never i (sym uncut ∙ ap (λ m. m.cut) (sym (only b l)) ∙ e) in omega arith);
        uncut = λ b l e i h. absurd (omega arith);
        all_there = subst (IsPermutation (range_with_len 0 (length es))) (sym numbers) (IsPermutation-refl (range_with_len 0 (length es)));
        located = λ b j l h. let z : b ≡ 0 = omega arith in ap (λ c. holds [] c (entry_at es (get_or order j 0)).place) z ∙ holds_root [] _ ∙ sym (ap (λ m. leb m.from j && ltb j m.to) (only b l) ∙ and_from (leb root.from j) (ltb j root.to) (le-leb root.from j (omega arith)) (lt-ltb j root.to (omega arith)));
        bounds = λ b l. subst (λ m. BoundsOf (contents [] b es) m.bounds) (sym (only b l)) (subst (λ fs. BoundsOf fs root.bounds) (sym (all_entries b l)) bounds);
        tallies = λ b l. subst (λ m. TalliesOf (contents [] b es) m.tallies) (sym (only b l)) (subst (λ fs. TalliesOf fs root.tallies) (sym (all_entries b l)) tallies);
      }
    where
      never : (i : ℕ) → None ≡ Some i → ◌≡◌ {A = ℕ} 0 1
      never i e = cc
