-- The arrays of the table, as a box gets children.
use Rattle.std.proofs.Common.{◌≡◌, ℕ, ◌+◌, ◌*◌, ◌<◌, ◌≤◌, List, length, set, Some, None, sym, ◌∙◌, subst, inl, inr, arith}
use Rattle.std.proofs.lemmas.List.{get_or-set_same, get_or-set_other, length-set}
use Rattle.std.proofs.lemmas.Bool.{cases_eq, cases_lt}
use Rattle.boxes.specs.declared.node.BoxNode.{BoxNode}
use Rattle.boxes.specs.Table.{blank, node_at, with_cut, HasRuns, HasCuts, Rises, Grown}

pub grown_by : (ns : List BoxNode) (count b : ℕ) (n first second : BoxNode) → length ns ≡ 255 → count < 127 → b < 2 * count + 1 → n ≡ with_cut (node_at ns b) count →
    Grown ns count b first second (set (set (set ns b n) (2 * count + 1) first) (2 * count + 2) second)
grown_by ns count b n first second long room l is =
    let xs = set ns b n in
    let ys = set xs (2 * count + 1) first in
    let lx : length xs ≡ 255 = length-set ns b n ∙ long in
    let ly : length ys ≡ 255 = length-set xs (2 * count + 1) first ∙ lx in
    record {
      others = λ j lj ne. get_or-set_other ys (2 * count + 2) j second blank (λ e. omega arith) ∙ get_or-set_other xs (2 * count + 1) j first blank (λ e. omega arith) ∙ get_or-set_other ns b j n blank ne;
      parent = get_or-set_other ys (2 * count + 2) b second blank (λ e. omega arith) ∙ get_or-set_other xs (2 * count + 1) b first blank (λ e. omega arith) ∙ get_or-set_same ns b n blank (omega arith) ∙ is;
      first_is = get_or-set_other ys (2 * count + 2) (2 * count + 1) second blank (λ e. omega arith) ∙ get_or-set_same xs (2 * count + 1) first blank (omega arith);
      second_is = get_or-set_same ys (2 * count + 2) second blank (omega arith);
    }

no_cut : (i : ℕ) → None ≡ Some i → ⊥
no_cut i e = let z : ◌≡◌ {A = ℕ} 0 1 = cc in omega arith

same_cut : (i j : ℕ) → Some i ≡ Some j → i ≡ j
same_cut i j e = cc

module _ (ns : List BoxNode) (count b : ℕ) (first second : BoxNode) (ns' : List BoxNode) (g : Grown ns count b first second ns') where
  -- what holds of the cut box, of the new ones and of the others holds of all
  pub by_box : (P : ℕ → BoxNode → Type 0) → P b (with_cut (node_at ns b) count) → P (2 * count + 1) first → P (2 * count + 2) second → ((j : ℕ) → j < 2 * count + 1 → (j ≡ b → ⊥) → P j (node_at ns j)) →
      (j : ℕ) → j < 2 * (count + 1) + 1 → P j (node_at ns' j)
  by_box P cut one two rest j l = elim (cases_eq j b) [
    | inl e ↦ subst (λ k. P k (node_at ns' k)) (sym e) (subst (P b) (sym g.parent) cut)
    | inr ne ↦ elim (cases_lt j (2 * count + 1)) [
      | inl m ↦ subst (P j) (sym (g.others j m ne)) (rest j m ne)
      | inr m ↦ elim (cases_eq j (2 * count + 1)) [
        | inl e ↦ subst (λ k. P k (node_at ns' k)) (sym e) (subst (P (2 * count + 1)) (sym g.first_is) one)
        | inr k ↦ let e : 2 * count + 2 ≡ j = omega arith in subst (λ k. P k (node_at ns' k)) e (subst (P (2 * count + 2)) (sym g.second_is) two)
      ]
    ]
  ]

  pub runs_grown : (n : ℕ) → b < 2 * count + 1 → HasRuns ns count n → first.from < first.to → first.to ≤ n → second.from < second.to → second.to ≤ n → HasRuns ns' (count + 1) n
  runs_grown n l h f1 t1 f2 t2 j lj =
      by_box (λ j m. (m.from < m.to) × (m.to ≤ n)) (h b l) (f1, t1) (f2, t2) (λ j m ne. h j m) j lj

  pub cuts_grown : first.cut ≡ None → second.cut ≡ None → HasCuts ns count → HasCuts ns' (count + 1)
  cuts_grown u1 u2 h j i lj =
      by_box (λ j m. m.cut ≡ Some i → i < count + 1) (λ e. omega (arith, same_cut count i e)) (λ e. absurd (no_cut i (sym u1 ∙ e))) (λ e. absurd (no_cut i (sym u2 ∙ e))) (λ j m ne e. omega (arith, h j i m e)) j lj

  pub rises_grown : b < 2 * count + 1 → first.cut ≡ None → second.cut ≡ None → Rises ns count → Rises ns' (count + 1)
  rises_grown l u1 u2 h j i lj =
      by_box (λ j m. m.cut ≡ Some i → j < 2 * i + 1) (λ e. omega (arith, same_cut count i e)) (λ e. absurd (no_cut i (sym u1 ∙ e))) (λ e. absurd (no_cut i (sym u2 ∙ e))) (λ j m ne e. h j i m e) j lj
