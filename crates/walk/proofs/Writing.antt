-- What is written for the records of a run, and for those of a box.
use Rattle.std.proofs.Common.{◌≡◌, ℕ, ◌+◌, ◌-◌, ◌*◌, ◌<◌, ◌≤◌, true, not, ltb, leb, List, [], ◌∷◌, ◌++◌, length, get_or, take, set, sym, refl, ap, ◌∙◌, subst, inl, inr, arith}
use Rattle.std.specs.List.{range_with_len, ContainsAt as Has, between, AllByRecursion}
use Rattle.std.proofs.lemmas.List.FromFn.{get_or-range_with_len, length-range_with_len}
use Rattle.std.proofs.lemmas.List.Edits.{length-between, get_or-between}
use Rattle.std.proofs.ByRecursion.{all-has, has_append_left, has_get_or, has_push, has_push_cases, has_shuffled}
use Rattle.std.proofs.lemmas.List.{get_or-set_same, get_or-set_other, get_or-take, length-take-le, take_more}
use Rattle.std.proofs.lemmas.Bool.{cases_eq, cases_Bool, both_ways, and_from, and_left, and_right, and_parts, le-leb, lt-ltb, leb-true, ltb-true}
use Rattle.points.specs.Entries.{Entry}
use Rattle.grouping.specs.Choice.{choose}
use Rattle.grouping.specs.Distance.{Place}
use Rattle.boxes.specs.declared.cut.Cut.{Cut}
use Rattle.boxes.specs.declared.node.BoxNode.{BoxNode}
use Rattle.boxes.specs.Regions.{below, boxes_after, holds, cut_at}
use Rattle.boxes.specs.Runs.{entry_at, picked}
use Rattle.boxes.specs.Agreement.{Agrees}
use Rattle.boxes.specs.Table.{node_at}
use Rattle.boxes.proofs.Regions.{children_hold}
use Rattle.boxes.proofs.Sameness.{has_map}
use Rattle.walk.specs.Assignments.{Written, AssignedIn}

-- ---- a run, one record after the other

pub written_more : (f : ℕ → ℕ) (run : List ℕ) (j v : ℕ) (old mid : List ℕ) → j < length run → get_or run j 0 < length mid → v ≡ f (get_or run j 0) → Written f (take j run) old mid → Written f (take (j + 1) run) old (set mid (get_or run j 0) v)
written_more f run j v old mid l inside is w =
    let x = get_or run j 0 in
    let next = take_more run j 0 l in
    record {
      each = λ i h. elim (cases_eq i x) [
        | inl e ↦ ap (λ k. get_or (set mid x v) k 0) e ∙ get_or-set_same mid x v 0 inside ∙ is ∙ ap f (sym e)
        | inr n ↦ get_or-set_other mid x i v 0 n ∙ elim (has_push_cases (take j run) x i (subst (λ xs. Has xs i) next h)) [ inl q ↦ w.each i q | inr e ↦ absurd (n (sym e)) ]
      ];
      others = λ i h. get_or-set_other mid x i v 0 (λ e. h (subst (λ xs. Has xs i) (sym next) (subst (Has (take j run ++ x ∷ [])) (sym e) (has_push (take j run) x)))) ∙ w.others i (λ q. h (subst (λ xs. Has xs i) (sym next) (has_append_left (take j run) (x ∷ []) i q)));
    }

-- ---- the run of a box, where the table agrees with its cuts

module _ (es : List Entry) (cuts : List Cut) (ns : List BoxNode) (order : List ℕ) (a : Agrees es cuts ns order) (long : length es ≤ length order) (b : ℕ) (there : b < boxes_after cuts) (end : (node_at ns b).to ≤ length es) where
  -- a record of the box stands in its run
  pub run_has : (i : ℕ) → i < length es → holds cuts b (entry_at es i).place ≡ true → Has (between (node_at ns b).from (node_at ns b).to order) i
  run_has i l h =
      let n = node_at ns b in
      let at = has_shuffled (range_with_len 0 (length es)) (take (length es) order) i a.all_there (subst (Has (range_with_len 0 (length es))) (get_or-range_with_len 0 (length es) i 0 l ∙ omega arith) (has_get_or (range_with_len 0 (length es)) i 0 (omega (arith, length-range_with_len 0 (length es))))) in
      let j = at.0 in
      let lj : j < length es = omega (arith, at.1, length-take-le (length es) order long) in
      let is : get_or order j 0 ≡ i = sym (get_or-take (length es) order j 0 lj) ∙ at.2 0 in
      let in_run = and_parts (leb n.from j) (ltb j n.to) (sym (a.located b j there lj) ∙ ap (λ k. holds cuts b (entry_at es k).place) is ∙ h) in
      let low = leb-true n.from j in_run.0 in
      let high = ltb-true j n.to in_run.1 in
      let e : n.from + (j - n.from) ≡ j = omega arith in
      subst (Has (between n.from n.to order)) (get_or-between order n.from n.to (j - n.from) 0 (omega arith) ∙ ap (λ k. get_or order k 0) e ∙ is) (has_get_or (between n.from n.to order) (j - n.from) 0 (omega (arith, length-between order n.from n.to (omega arith))))

  -- and what stands in its run is in the box
  pub run_holds : (i : ℕ) → Has (between (node_at ns b).from (node_at ns b).to order) i → holds cuts b (entry_at es i).place ≡ true
  run_holds i h =
      let n = node_at ns b in
      let k = h.0 in
      let lk : n.from + k < n.to = omega (arith, h.1, length-between order n.from n.to (omega arith)) in
      let is : get_or order (n.from + k) 0 ≡ i = sym (get_or-between order n.from n.to k 0 lk) ∙ h.2 0 in
      ap (λ j. holds cuts b (entry_at es j).place) (sym is) ∙ a.located b (n.from + k) there (omega arith) ∙ and_from (leb n.from (n.from + k)) (ltb (n.from + k) n.to) (le-leb n.from (n.from + k) (omega arith)) (lt-ltb (n.from + k) n.to lk)

  -- so what is written for the run is written for the box
  pub written_run : (cs : List Place) (f : ℕ → ℕ) (old new : List ℕ) → AllByRecursion (λ e. (i : ℕ) → e ≡ entry_at es i → f i ≡ choose cs e.place) (picked es (between (node_at ns b).from (node_at ns b).to order)) →
      Written f (between (node_at ns b).from (node_at ns b).to order) old new → AssignedIn cs es cuts b old new
  written_run cs f old new right w =
      record {
        inside = λ i l h.
            let r = run_has i l h in
            w.each i r ∙ all-has (λ e. (j : ℕ) → e ≡ entry_at es j → f j ≡ choose cs e.place) _ (entry_at es i) right (has_map (λ k. entry_at es k) _ i r) i refl;
        outside = λ i l h. w.others i (λ r. both_ways (holds cuts b (entry_at es i).place) h (run_holds i r));
      }

-- ---- both children of a cut box

pub assigned_cut : (cs : List Place) (es : List Entry) (cuts : List Cut) (ns : List BoxNode) (order : List ℕ) → Agrees es cuts ns order → (b i : ℕ) → i < length cuts → (cut_at cuts i).parent ≡ b → (old mid new : List ℕ) →
    AssignedIn cs es cuts (2 * i + 1) old mid → AssignedIn cs es cuts (2 * i + 2) mid new → AssignedIn cs es cuts b old new
assigned_cut cs es cuts ns order a b i l of old mid new first second =
    record {
      inside = λ n ln h.
          let p = (entry_at es n).place in
          let parts = children_hold cuts a.log b i l of p in
          elim (cases_Bool (below (cut_at cuts i) p)) [
            | inl t ↦ second.outside n ln (parts.1 ∙ and_right (holds cuts b p) (not (below (cut_at cuts i) p)) (ap not t)) ∙ first.inside n ln (parts.0 ∙ and_from (holds cuts b p) (below (cut_at cuts i) p) h t)
            | inr f ↦ second.inside n ln (parts.1 ∙ and_from (holds cuts b p) (not (below (cut_at cuts i) p)) h (ap not f))
          ];
      outside = λ n ln h.
          let p = (entry_at es n).place in
          let parts = children_hold cuts a.log b i l of p in
          second.outside n ln (parts.1 ∙ and_left (holds cuts b p) _ h) ∙ first.outside n ln (parts.0 ∙ and_left (holds cuts b p) _ h);
    }
