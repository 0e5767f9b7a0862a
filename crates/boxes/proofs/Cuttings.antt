-- A table that agrees with its cuts still does after one more.
use Rattle.std.proofs.Common.{◌≡◌, ℕ, ◌+◌, ◌*◌, ◌<◌, ◌≤◌, Bool, true, false, cond, not, ◌&&◌, ltb, leb, List, [], ◌∷◌, ◌++◌, length, get_or, take, ℤ, Some, None, sym, refl, ap, ◌∙◌, subst, ap₂, inl, inr, arith}
use Rattle.std.specs.List.{range_with_len, between}
use Rattle.std.proofs.lemmas.List.Sorted.{IsPermutation-trans}
use Rattle.std.proofs.lemmas.Bool.{lt-ltb, le-ltb, le-leb, lt-leb, and_from, and_left, and_right, cases_lt}
use Rattle.points.specs.Entries.{Entry}
use Rattle.boxes.specs.declared.cut.Cut.{Cut}
use Rattle.boxes.specs.declared.node.BoxNode.{BoxNode}
use Rattle.boxes.specs.Regions.{below, boxes_after, holds, contents, cut_at, Uncut}
use Rattle.boxes.specs.Runs.{entry_at, picked, under, Reordered}
use Rattle.boxes.specs.Agreement.{in_run, Agrees}
use Rattle.boxes.specs.Table.{node_at, with_cut, HasCuts, Grown}
use Rattle.boxes.specs.Tells.{BoundsOf, TalliesOf}
use Rattle.boxes.proofs.Growth.{by_box}
use Rattle.boxes.proofs.Orders.{same_before, same_after, source, reordered_all}
use Rattle.boxes.proofs.Regions.{boxes_more, holds_old, holds_first, holds_second, cut_old, cut_new, uncut_more, logged_more, alike}
use Rattle.boxes.proofs.Sameness.{Same, same_run, bounds_same, tallies_same}

-- the run of a box, where the table agrees
module _ (es : List Entry) (cuts : List Cut) (ns : List BoxNode) (order : List ℕ) (a : Agrees es cuts ns order) (long : length es ≤ length order) where
  pub run_same : (b : ℕ) → b < boxes_after cuts → (node_at ns b).from ≤ (node_at ns b).to → (node_at ns b).to ≤ length es →
      Same (contents cuts b es) (picked es (between (node_at ns b).from (node_at ns b).to order))
  run_same b l up end = same_run es order (λ e. holds cuts b e.place) (node_at ns b).from (node_at ns b).to up end long a.all_there (λ j h. a.located b j l h)

-- in the run or not
run_in : (n : BoxNode) (j : ℕ) → n.from ≤ j → j < n.to → in_run n j ≡ true
run_in n j l h = and_from (leb n.from j) (ltb j n.to) (le-leb n.from j l) (lt-ltb j n.to h)

run_before : (n : BoxNode) (j : ℕ) → j < n.from → in_run n j ≡ false
run_before n j l = and_left (leb n.from j) (ltb j n.to) (lt-leb n.from j l)

run_after : (n : BoxNode) (j : ℕ) → n.to ≤ j → in_run n j ≡ false
run_after n j l = and_right (leb n.from j) (ltb j n.to) (le-ltb j n.to l)

-- box b, from one place of the order to another, is put into another order
module _ (es : List Entry) (cuts : List Cut) (ns : List BoxNode) (order order' : List ℕ) (a : Agrees es cuts ns order) (b from to : ℕ) (there : b < boxes_after cuts) (uncut : Uncut cuts b)
    (from_is : (node_at ns b).from ≡ from) (to_is : (node_at ns b).to ≡ to) (up : from ≤ to) (end : to ≤ length es) (long : length es ≤ length order) (r : Reordered order order' from to) where
  end_order : to ≤ length order
  end_order = omega arith

  -- all that stands in the run lies in the box, before and after
  in_box : (j : ℕ) → from ≤ j → j < to → holds cuts b (entry_at es (get_or order j 0)).place ≡ true
  in_box j l h = a.located b j there (omega arith) ∙ run_in (node_at ns b) j (omega (arith, from_is)) (omega (arith, to_is))

  in_box' : (j : ℕ) → from ≤ j → j < to → holds cuts b (entry_at es (get_or order' j 0)).place ≡ true
  in_box' j l h =
      let s = source order order' from to up end_order r j l h in
      ap (λ i. holds cuts b (entry_at es i).place) s.is ∙ in_box s.place s.low s.high

  -- so the new order is as good as the old one
  located_still : (d j : ℕ) → d < boxes_after cuts → j < length es → holds cuts d (entry_at es (get_or order' j 0)).place ≡ in_run (node_at ns d) j
  located_still d j l h = elim (cases_lt j from) [
    | inl k ↦ ap (λ i. holds cuts d (entry_at es i).place) (same_before order order' from to up end_order r j k) ∙ a.located d j l h
    | inr k ↦ elim (cases_lt j to) [
      | inl m ↦ alike cuts a.log b d there l uncut _ _ (in_box' j k m) (in_box j k m) ∙ a.located d j l h
      | inr m ↦ ap (λ i. holds cuts d (entry_at es i).place) (same_after order order' from to up end_order r j m) ∙ a.located d j l h
    ]
  ]

  pub agrees_reordered : Agrees es cuts ns order'
  agrees_reordered =
      record {
        log = a.log;
        cut_by = a.cut_by;
        uncut = a.uncut;
        all_there = IsPermutation-trans (range_with_len 0 (length es)) (take (length es) order) (take (length es) order') a.all_there (reordered_all order order' from to (length es) up end long r);
        located = located_still;
        bounds = a.bounds;
        tallies = a.tallies;
      }

-- the box that the cut c cuts, from one place of the order to another: up to mid it has what lies below the cut
module _ (es : List Entry) (cuts : List Cut) (ns ns' : List BoxNode) (order : List ℕ) (c : Cut) (from to mid : ℕ) (first second : BoxNode)
    (a : Agrees es cuts ns order) (stood : c.parent < boxes_after cuts) (uncut : Uncut cuts c.parent)
    (from_is : (node_at ns c.parent).from ≡ from) (to_is : (node_at ns c.parent).to ≡ to) (low : from ≤ mid) (high : mid ≤ to) (end : to ≤ length es) (long : length es ≤ length order)
    (lower : (j : ℕ) → from ≤ j → j < mid → under es c (get_or order j 0) ≡ true) (upper : (j : ℕ) → mid ≤ j → j < to → under es c (get_or order j 0) ≡ false)
    (g : Grown ns (length cuts) c.parent first second ns')
    (f1 : first.from ≡ from) (t1 : first.to ≡ mid) (f2 : second.from ≡ mid) (t2 : second.to ≡ to) (u1 : first.cut ≡ None) (u2 : second.cut ≡ None)
    (b1 : BoundsOf (picked es (between from mid order)) first.bounds) (y1 : TalliesOf (picked es (between from mid order)) first.tallies)
    (b2 : BoundsOf (picked es (between mid to order)) second.bounds) (y2 : TalliesOf (picked es (between mid to order)) second.tallies) where
  -- the place of the record at j
  abbrev at : ℕ → List ℤ
  at j = (entry_at es (get_or order j 0)).place

  -- all that stands in the run lies in the box
  in_parent : (j : ℕ) → from ≤ j → j < to → holds cuts c.parent (at j) ≡ true
  in_parent j l h = a.located c.parent j stood (omega arith) ∙ run_in (node_at ns c.parent) j (omega (arith, from_is)) (omega (arith, to_is))

  -- which side a record of the run is on
  side : (j : ℕ) → from ≤ j → j < to → below c (at j) ≡ ltb j mid
  side j l h = elim (cases_lt j mid) [ inl m ↦ lower j l m ∙ sym (lt-ltb j mid m) | inr m ↦ upper j m h ∙ sym (le-ltb j mid m) ]

  -- where a box with these ends has its run
  run_of : (n : BoxNode) (x y j : ℕ) → n.from ≡ x → n.to ≡ y → in_run n j ≡ (leb x j && ltb j y)
  run_of n x y j e f = ap₂ (λ v w. leb v j && ltb j w) e f

  -- a record of the new order lies in one of the new boxes if it stands in its run
  located_new : (n : BoxNode) (x y : ℕ) (b : ℕ) (t : Bool → Bool) → n.from ≡ x → n.to ≡ y → from ≤ x → y ≤ to →
      ((q : List ℤ) → holds (cuts ++ c ∷ []) b q ≡ (holds cuts c.parent q && t (below c q))) → ((j : ℕ) → from ≤ j → j < to → t (ltb j mid) ≡ (leb x j && ltb j y)) →
      (j : ℕ) → j < length es → holds (cuts ++ c ∷ []) b (at j) ≡ in_run n j
  located_new n x y b t e f lx ly is inner j l = elim (cases_lt j from) [
    | inl k ↦ is (at j) ∙ and_left (holds cuts c.parent (at j)) (t (below c (at j))) (a.located c.parent j stood l ∙ run_before (node_at ns c.parent) j (omega (arith, from_is))) ∙ sym (run_before n j (omega arith))
    | inr k ↦ elim (cases_lt j to) [
      | inl m ↦ is (at j) ∙ ap₂ (λ v w. v && t w) (in_parent j k m) (side j k m) ∙ inner j k m ∙ sym (run_of n x y j e f)
      | inr m ↦ is (at j) ∙ and_left (holds cuts c.parent (at j)) (t (below c (at j))) (a.located c.parent j stood l ∙ run_after (node_at ns c.parent) j (omega (arith, to_is))) ∙ sym (run_after n j (omega arith))
    ]
  ]

  located_first : (b j : ℕ) → b ≡ boxes_after cuts → j < length es → holds (cuts ++ c ∷ []) b (at j) ≡ in_run first j
  located_first b j e l =
      located_new first from mid b (λ v. v) f1 t1 (omega arith) high (λ q. holds_first cuts c b q e)
      (λ i k m. ap (λ v. v && ltb i mid) (sym (le-leb from i k))) j l

  located_second : (b j : ℕ) → b ≡ boxes_after cuts + 1 → j < length es → holds (cuts ++ c ∷ []) b (at j) ≡ in_run second j
  located_second b j e l =
      located_new second mid to b not f2 t2 low (omega arith) (λ q. holds_second cuts c b q e)
      (λ i k m. elim (cases_lt i mid) [
        | inl h ↦ ap not (lt-ltb i mid h) ∙ sym (and_left (leb mid i) (ltb i to) (lt-leb mid i h))
        | inr h ↦ ap not (le-ltb i mid h) ∙ sym (and_from (leb mid i) (ltb i to) (le-leb mid i h) (lt-ltb i to m))
      ]) j l

  -- the boxes that were there keep their entries
  contents_old : (b : ℕ) → b < boxes_after cuts → (fs : List Entry) → contents (cuts ++ c ∷ []) b fs ≡ contents cuts b fs
  contents_old b l [] = refl
  contents_old b l (e ∷ fs) = rw (holds_old cuts c b e.place l) (ap (λ gs. cond (holds cuts b e.place) (e ∷ gs) gs) (contents_old b l fs))

  first_same : (b : ℕ) → b ≡ boxes_after cuts → Same (contents (cuts ++ c ∷ []) b es) (picked es (between from mid order))
  first_same b e = same_run es order (λ x. holds (cuts ++ c ∷ []) b x.place) from mid low (omega arith) long a.all_there (λ j h. located_first b j e h ∙ run_of first from mid j f1 t1)

  second_same : (b : ℕ) → b ≡ boxes_after cuts + 1 → Same (contents (cuts ++ c ∷ []) b es) (picked es (between mid to order))
  second_same b e = same_run es order (λ x. holds (cuts ++ c ∷ []) b x.place) mid to high end long a.all_there (λ j h. located_second b j e h ∙ run_of second mid to j f2 t2)

  -- what holds of every box
  each : (P : ℕ → BoxNode → Type 0) → P c.parent (with_cut (node_at ns c.parent) (length cuts)) → P (boxes_after cuts) first → P (boxes_after cuts + 1) second → ((j : ℕ) → j < boxes_after cuts → (j ≡ c.parent → ⊥) → P j (node_at ns j)) →
      (j : ℕ) → j < boxes_after (cuts ++ c ∷ []) → P j (node_at ns' j)
  each P cut one two rest j l =
      let e : boxes_after cuts + 1 ≡ 2 * length cuts + 2 = omega arith in
      by_box ns (length cuts) c.parent first second ns' g P cut one (subst (λ k. P k second) e two) rest j (omega (arith, boxes_more cuts c))

  none_some : (i : ℕ) → None ≡ Some i → ⊥
  none_some i e = let z : ◌≡◌ {A = ℕ} 0 1 = cc in omega arith

  some_none : (i : ℕ) → Some i ≡ None → ⊥
  some_none i e = let z : ◌≡◌ {A = ℕ} 0 1 = cc in omega arith

  same_some : (i j : ℕ) → Some i ≡ Some j → i ≡ j
  same_some i j e = cc

  pub agrees_cut : HasCuts ns (length cuts) → Agrees es (cuts ++ c ∷ []) ns' order
  agrees_cut links =
      record {
        log = logged_more cuts c a.log stood uncut;
        cut_by = λ b i l. each (λ j m. m.cut ≡ Some i → (cut_at (cuts ++ c ∷ []) i).parent ≡ j) (λ e. ap (λ d. d.parent) (cut_new cuts c i (sym (same_some (length cuts) i e)))) (λ e. absurd (none_some i (sym u1 ∙ e))) (λ e. absurd (none_some i (sym u2 ∙ e))) (λ j m ne e. ap (λ d. d.parent) (cut_old cuts c i (links j i m e)) ∙ a.cut_by j i m e) b l;
        uncut = each (λ j m. m.cut ≡ None → Uncut (cuts ++ c ∷ []) j) (λ e. absurd (some_none (length cuts) e)) (λ e. fresh (boxes_after cuts) (omega arith)) (λ e. fresh (boxes_after cuts + 1) (omega arith)) (λ j m ne e. uncut_more cuts c j (a.uncut j m e) ne);
        all_there = a.all_there;
        located = λ b j l h. each (λ k m. holds (cuts ++ c ∷ []) k (entry_at es (get_or order j 0)).place ≡ in_run m j) (holds_old cuts c c.parent _ stood ∙ a.located c.parent j stood h) (located_first (boxes_after cuts) j refl h) (located_second (boxes_after cuts + 1) j refl h) (λ k m ne. holds_old cuts c k _ m ∙ a.located k j m h) b l;
        bounds = each (λ j m. BoundsOf (contents (cuts ++ c ∷ []) j es) m.bounds) (keep_bounds c.parent stood) (bounds_same _ _ (first_same (boxes_after cuts) refl) first.bounds b1) (bounds_same _ _ (second_same (boxes_after cuts + 1) refl) second.bounds b2) (λ j m ne. keep_bounds j m);
        tallies = each (λ j m. TalliesOf (contents (cuts ++ c ∷ []) j es) m.tallies) (keep_tallies c.parent stood) (tallies_same _ _ (first_same (boxes_after cuts) refl) first.tallies y1) (tallies_same _ _ (second_same (boxes_after cuts + 1) refl) second.tallies y2) (λ j m ne. keep_tallies j m);
      }
    where
      -- no cut is of a box that is only now made
      fresh : (b : ℕ) → boxes_after cuts ≤ b → Uncut (cuts ++ c ∷ []) b
      fresh b l = uncut_more cuts c b (λ i h e. omega (arith, a.log.stood i h)) (λ e. omega (arith, stood))

      keep_bounds : (j : ℕ) → j < boxes_after cuts → BoundsOf (contents (cuts ++ c ∷ []) j es) (node_at ns j).bounds
      keep_bounds j l = subst (λ fs. BoundsOf fs (node_at ns j).bounds) (sym (contents_old j l es)) (a.bounds j l)

      keep_tallies : (j : ℕ) → j < boxes_after cuts → TalliesOf (contents (cuts ++ c ∷ []) j es) (node_at ns j).tallies
      keep_tallies j l = subst (λ fs. TalliesOf fs (node_at ns j).tallies) (sym (contents_old j l es)) (a.tallies j l)
