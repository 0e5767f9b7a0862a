-- The three ways of a walk at a box: one candidate is left, the box is cut, or its records are looked at.
use Rattle.std.proofs.Common.{◌≡◌, ℕ, ◌+◌, ◌-◌, ◌*◌, ◌%◌, ◌^◌, ◌<◌, ◌≤◌, List, [], ◌∷◌, ◌++◌, length, get_or, sym, ap, ◌∙◌, subst, ap₂, arith}
use Rattle.std.specs.List.{ContainsAt as Has, AllByRecursion}
use Rattle.std.proofs.ByRecursion.{all_kept_by, All-map, All-get_or}
use Rattle.std.proofs.lemmas.List.{get_or-map, length-map}
use Rattle.points.specs.declared.point.Point.{Ghosts as PointGhosts}
use Rattle.points.specs.declared.record.Record.{Ghosts as RecordGhosts}
use Rattle.points.specs.Entries.{Entry, entry, entries}
use Rattle.grouping.specs.Boxes.{Inside}
use Rattle.grouping.specs.Choice.{choose}
use Rattle.grouping.specs.Distance.{Place}
use Rattle.grouping.proofs.Totals.{all_of}
use Rattle.boxes.specs.declared.cut.Cut.{Cut}
use Rattle.boxes.specs.declared.node.Tallies.{Tallies}
use Rattle.boxes.specs.declared.table.BoxTable.{BoxTable}
use Rattle.boxes.specs.Regions.{holds, contents, cut_at, Uncut, SplitInto}
use Rattle.boxes.specs.Standing.{cuts_of, entries_of}
use Rattle.boxes.specs.Runs.{nothing, entry_at, picked}
use Rattle.boxes.specs.Table.{node_at}
use Rattle.boxes.proofs.Picking.{entry_of}
use Rattle.boxes.proofs.Sameness.{Same, total_same, all_back, length_same}
use Rattle.boxes.proofs.Sides.{box_same}
use Rattle.boxes.proofs.Tables.{has_runs, order_long}
use Rattle.pruning.specs.declared.candidates.Candidates.{Candidates}
use Rattle.pruning.specs.Candidates.{listed, among}
use Rattle.pruning.specs.Centers.{centers_of}
use Rattle.pruning.specs.Positions.{lows, highs}
use Rattle.pruning.specs.Pruning.{numbers_of}
use Rattle.pruning.specs.Rules.{Test}
use Rattle.pruning.proofs.Listed.{length_centers}
use Rattle.walk.specs.declared.tally.Tally.{Tally}
use Rattle.walk.specs.declared.visit.Visit.{Visit}
use Rattle.walk.specs.Assignments.{Written, AssignedIn}
use Rattle.walk.specs.Costs.{whole, opened, looked_at, Counted}
use Rattle.walk.specs.Growth.{Credited, Grown, Covered}
use Rattle.walk.specs.Visits.{box_of, cuts_in, all_entries, entries_in, run_in, centers_in, candidates_in, Pruned, Parts, CountedFrom}
use Rattle.walk.proofs.Downs.{within_bounds, covered_left, covered_one, total_parts, all_parts}
use Rattle.walk.proofs.Exactness.{contents_all, covered_all}
use Rattle.walk.proofs.Growing.{tally_of, grown_append, grown_whole, grown_same}
use Rattle.walk.proofs.Visits.{there, table_stands, covered_is}
use Rattle.walk.proofs.Writing.{written_run, assigned_cut}

-- ---- all centers cover the box of all records

pub covered_root : (axes : ℕ) (s : Candidates) (cuts : List Cut) (b : ℕ) (es : List Entry) → b ≡ 0 → listed s ≡ numbers_of (among axes s) → Covered (among axes s) (listed s) (contents cuts b es)
covered_root axes s cuts b es root all =
    let cs = among axes s in
    let some : 0 < length cs = omega (arith, length_centers axes s.centers.now, s.centers.now.some) in
    let whole : es ≡ contents cuts b es = sym (contents_all cuts es) ∙ ap (λ n. contents cuts n es) (sym root) in
    subst (Covered cs (listed s)) whole (subst (λ ks. Covered cs ks es) (sym all) (covered_all cs es some))

-- ---- the rule is consulted

module _ {R : Type 0} {kindP : PointGhosts R} {kindR : RecordGhosts R} (few : kindP.AXES ≤ 4) (sized : (r : R) → length (kindP.place r) ≡ kindP.AXES) (v : Visit R kindR kindP) where
  -- what covers the box before covers it after
  pub still : (ls : List ℕ) → ((p : Place) → Inside (lows kindP.AXES (node_at v.at.table.now.nodes (box_of v)).bounds) (highs kindP.AXES (node_at v.at.table.now.nodes (box_of v)).bounds) p → Has (candidates_in v) (choose (centers_in v) p) → Has ls (choose (centers_in v) p)) →
      Covered (centers_in v) ls (entries_in v)
  still ls keeps =
      let axes = kindP.AXES in
      let b = (node_at v.at.table.now.nodes (box_of v)).bounds in
      let all : AllByRecursion (λ e. length e.place ≡ axes) (all_entries v) = All-map (λ e. length e.place ≡ axes) (λ x. entry kindP kindR x) v.at.table.now.recording.records.now (all_of sized v.at.table.now.recording.records.now) in
      covered_left (centers_in v) (candidates_in v) ls (lows axes b) (highs axes b) (entries_in v) keeps
      (within_bounds axes (entries_in v) b few (all_kept_by (λ e. holds (cuts_in v) (box_of v) e.place) (λ e. length e.place ≡ axes) (all_entries v) all) ((table_stands v).bounds (box_of v) (there v)))
      (covered_is v)

-- ---- both boxes of a cut

-- what covers the box covers both
pub covered_parts : {R : Type 0} {kindP : PointGhosts R} {kindR : RecordGhosts R} (v : Visit R kindR kindP) (c : Cut) (a b : ℕ) (t u : BoxTable R kindR kindP) → SplitInto (cuts_in v) (box_of v) c a b → t ≡ v.at.table.now → u ≡ v.at.table.now →
    Covered (centers_in v) (candidates_in v) (contents (cuts_of t) a (entries_of t)) × Covered (centers_in v) (candidates_in v) (contents (cuts_of u) b (entries_of u))
covered_parts {R = R} {kindP = kindP} {kindR = kindR} v c a b t u s e f =
    let both = all_parts (cuts_in v) (table_stands v).log (box_of v) s.number s.made s.of (λ e. Has (candidates_in v) (choose (centers_in v) e.place)) (all_entries v) (covered_is v) in
    let Covers : BoxTable R kindR kindP → ℕ → Type 0 = λ x n. Covered (centers_in v) (candidates_in v) (contents (cuts_of x) n (entries_of x)) in
    (subst (λ x. Covers x a) (sym e) (subst (Covers v.at.table.now) (sym s.first_is) both.0), subst (λ x. Covers x b) (sym f) (subst (Covers v.at.table.now) (sym s.second_is) both.1))

module _ {R : Type 0} {kindP : PointGhosts R} {kindR : RecordGhosts R} (v first second : Visit R kindR kindP) (parts : Parts v first second) where
  in_first : contents (cuts_in v) (2 * parts.split.number + 1) (all_entries v) ≡ entries_in first
  in_first = ap₂ (λ (t : BoxTable R kindR kindP) (b : ℕ). contents (cuts_of t) b (entries_of t)) (sym parts.first_table) (sym parts.split.first_is)

  in_second : contents (cuts_in v) (2 * parts.split.number + 2) (all_entries v) ≡ entries_in second
  in_second = ap₂ (λ (t : BoxTable R kindR kindP) (b : ℕ). contents (cuts_of t) b (entries_of t)) (sym parts.second_table) (sym parts.split.second_is)

  pub grown_parts : (ts us vs : List Tallies) → Grown (centers_in first) (entries_in first) ts us → Grown (centers_in second) (entries_in second) us vs → Grown (centers_in v) (entries_in v) ts vs
  grown_parts ts us vs a b =
      let i = parts.split.number in
      let one = contents (cuts_in v) (2 * i + 1) (all_entries v) in
      let two = contents (cuts_in v) (2 * i + 2) (all_entries v) in
      let a' : Grown (centers_in v) one ts us = subst (λ es. Grown (centers_in v) es ts us) (sym in_first) (subst (λ s. Grown (among kindP.AXES s) (entries_in first) ts us) parts.first_candidates a) in
      let b' : Grown (centers_in v) two us vs = subst (λ es. Grown (centers_in v) es us vs) (sym in_second) (subst (λ s. Grown (among kindP.AXES s) (entries_in second) us vs) parts.second_candidates b) in
      grown_same (centers_in v) (entries_in v) (one ++ two) ts vs (λ f. total_parts (cuts_in v) (table_stands v).log (box_of v) i parts.split.made parts.split.of f (all_entries v)) (grown_append (centers_in v) one two ts us vs a' b')

  -- what is written for both is written for the box
  pub assigned_parts : (old mid new : List ℕ) → AssignedIn (centers_in first) (all_entries first) (cuts_in first) (box_of first) old mid → AssignedIn (centers_in second) (all_entries second) (cuts_in second) (box_of second) mid new →
      AssignedIn (centers_in v) (all_entries v) (cuts_in v) (box_of v) old new
  assigned_parts old mid new a b =
      let i = parts.split.number in
      let t = v.at.table.now in
      let a' = subst (λ n. AssignedIn (centers_in v) (all_entries v) (cuts_in v) n old mid) parts.split.first_is (subst (λ (u : BoxTable R kindR kindP). AssignedIn (centers_in v) (entries_of u) (cuts_of u) (box_of first) old mid) parts.first_table (subst (λ s. AssignedIn (among kindP.AXES s) (all_entries first) (cuts_in first) (box_of first) old mid) parts.first_candidates a)) in
      let b' = subst (λ n. AssignedIn (centers_in v) (all_entries v) (cuts_in v) n mid new) parts.split.second_is (subst (λ (u : BoxTable R kindR kindP). AssignedIn (centers_in v) (entries_of u) (cuts_of u) (box_of second) mid new) parts.second_table (subst (λ s. AssignedIn (among kindP.AXES s) (all_entries second) (cuts_in second) (box_of second) mid new) parts.second_candidates b)) in
      assigned_cut (centers_in v) (all_entries v) (cuts_in v) t.nodes t.order (table_stands v) (box_of v) i parts.split.made parts.split.of old mid new a' b'

-- ---- the records of the box are looked at

module _ {R : Type 0} {kindP : PointGhosts R} {kindR : RecordGhosts R} (v : Visit R kindR kindP) where
  own : Same (entries_in v) (picked (all_entries v) (run_in v))
  own = box_same v.at.table.now (box_of v) (there v)

  covered_at : (i : ℕ) → i < length (run_in v) → Has (candidates_in v) (choose (centers_in v) (entry_at (all_entries v) (get_or (run_in v) i 0)).place)
  covered_at i l =
      let Covers : Entry → Type 0 = λ e. Has (candidates_in v) (choose (centers_in v) e.place) in
      let at = get_or-map (λ n. entry_at (all_entries v) n) (run_in v) i 0 nothing l in
      subst Covers at (All-get_or Covers (picked (all_entries v) (run_in v)) i nothing (omega (arith, length-map (run_in v) (λ n. entry_at (all_entries v) n))) (all_back Covers _ _ own (covered_is v)))

  -- each belongs to one of the candidates
  pub covered_record : (rs : List R) (ns : List ℕ) (i : ℕ) (r : R) → rs ≡ v.at.table.now.recording.records.now → ns ≡ run_in v → i < length ns → get_or ns i 0 < length rs → r ≡ get_or rs (get_or ns i 0) r → Has (candidates_in v) (choose (centers_in v) (kindP.place r))
  covered_record rs ns i r e f l known is =
      let Covers : Entry → Type 0 = λ x. Has (candidates_in v) (choose (centers_in v) x.place) in
      let n : get_or (run_in v) i 0 ≡ get_or ns i 0 = ap (λ xs. get_or xs i 0) (sym f) in
      let here : Covers (entry_at (all_entries v) (get_or ns i 0)) = subst (λ k. Covers (entry_at (all_entries v) k)) n (covered_at i (omega (arith, ap length f))) in
      subst Covers (entry_of kindP kindR rs (get_or ns i 0) r known is) (subst (λ xs. Covers (entry_at (entries kindP kindR xs) (get_or ns i 0))) (sym e) here)

  -- what they give is what the box gives
  pub grown_run : (ts us : List Tallies) → Grown (centers_in v) (picked (all_entries v) (run_in v)) ts us → Grown (centers_in v) (entries_in v) ts us
  grown_run ts us h = grown_same (centers_in v) (entries_in v) (picked (all_entries v) (run_in v)) ts us (λ f. total_same f _ _ own) h

  pub run_length : length (entries_in v) ≡ length (run_in v)
  run_length = length_same _ _ own ∙ length-map (run_in v) (λ n. entry_at (all_entries v) n)

  -- what is written for them is written for the box
  pub assigned_run : (f : ℕ → ℕ) (old new : List ℕ) → AllByRecursion (λ e. (i : ℕ) → e ≡ entry_at (all_entries v) i → f i ≡ choose (centers_in v) e.place) (entries_in v) → Written f (run_in v) old new → AssignedIn (centers_in v) (all_entries v) (cuts_in v) (box_of v) old new
  assigned_run f old new right w =
      let t = v.at.table.now in
      written_run (all_entries v) (cuts_in v) t.nodes t.order (table_stands v) (order_long t) (box_of v) (there v) (has_runs t (box_of v) (there v)).1 (centers_in v) f old new
      (all_back (λ e. (i : ℕ) → e ≡ entry_at (all_entries v) i → f i ≡ choose (centers_in v) e.place) _ _ own right) w

-- ---- what is left goes on

module _ {R : Type 0} {kindP : PointGhosts R} {kindR : RecordGhosts R} (prunes : Test) (v w : Visit R kindR kindP) (p : Pruned prunes v w) where
  same_centers : centers_in w ≡ centers_in v
  same_centers = ap (centers_of kindP.AXES) p.centers

  same_entries : entries_in w ≡ entries_in v
  same_entries = ap₂ (λ (t : BoxTable R kindR kindP) (b : ℕ). contents (cuts_of t) b (entries_of t)) p.table p.same_box

  covered_still : Covered (centers_in v) (candidates_in w) (entries_in v)
  covered_still = subst (Covered (centers_in v) (candidates_in w)) same_entries (subst (λ cs. Covered cs (candidates_in w) (entries_in w)) same_centers (covered_is w))

  -- one candidate is left: all entries of the box belong to it
  pub all_to : (k : ℕ) → candidates_in w ≡ k ∷ [] → AllByRecursion (λ e. k ≡ choose (centers_in v) e.place) (entries_in v)
  all_to k e = covered_one (centers_in v) (candidates_in w) k (entries_in v) (ap length e) (sym (ap (λ ks. get_or ks 0 0) e)) covered_still

  pub grown_one : (k : ℕ) (ts us : List Tallies) → candidates_in w ≡ k ∷ [] → Credited k (node_at v.at.table.now.nodes (box_of v)).tallies ts us → Grown (centers_in v) (entries_in v) ts us
  grown_one k ts us e c =
      let t = (node_at v.at.table.now.nodes (box_of v)).tallies in
      grown_whole (centers_in v) k t (entries_in v) ts us c (all_to k e) (tally_of (entries_in v) t ((table_stands v).tallies (box_of v) (there v)))

  pub grown_left : (ts us : List Tallies) → Grown (centers_in w) (entries_in w) ts us → Grown (centers_in v) (entries_in v) ts us
  grown_left ts us h = subst (λ es. Grown (centers_in v) es ts us) same_entries (subst (λ cs. Grown cs (entries_in w) ts us) same_centers h)

  pub assigned_left : (old new : List ℕ) → AssignedIn (centers_in w) (all_entries w) (cuts_in w) (box_of w) old new → AssignedIn (centers_in v) (all_entries v) (cuts_in v) (box_of v) old new
  assigned_left old new h =
      subst (λ b. AssignedIn (centers_in v) (all_entries v) (cuts_in v) b old new) p.same_box
      (subst (λ (t : BoxTable R kindR kindP). AssignedIn (centers_in v) (entries_of t) (cuts_of t) (box_of w) old new) p.table (subst (λ cs. AssignedIn cs (all_entries w) (cuts_in w) (box_of w) old new) same_centers h))

  -- ---- counts

  module _ (old noted : Tally) (none : noted.distances ≡ (old.distances + 0) % 2 ^ 64) (asked : noted.queries ≡ (old.queries + (length (candidates_in v) - 1)) % 2 ^ 64) where
    pub counted_one : (new : Tally) → length (candidates_in w) ≡ 1 → new.distances ≡ noted.distances → new.queries ≡ noted.queries → CountedFrom prunes v old new
    counted_one new n e f = record { distances = 0; queries = length (candidates_in v) - 1; costs = whole p.left n; distances_are = omega arith; queries_are = omega arith }

    -- from one of the boxes of a cut
    from_part : (f : Visit R kindR kindP) (b : ℕ) → f.at.table.now ≡ w.at.table.now → f.candidates ≡ w.candidates → box_of f ≡ b → (mid new : Tally) → CountedFrom prunes f mid new →
        Counted prunes kindP.AXES (all_entries v) (centers_in v) (cuts_in v) b (candidates_in w) mid new
    from_part f b t s n mid new h =
        subst (λ cs. Counted prunes kindP.AXES (all_entries v) cs (cuts_in v) b (candidates_in w) mid new) same_centers
        (subst (λ d. Counted prunes kindP.AXES (all_entries v) (centers_in w) (cuts_in v) d (candidates_in w) mid new) n
        (subst (λ (x : Candidates). Counted prunes kindP.AXES (all_entries v) (among kindP.AXES x) (cuts_in v) (box_of f) (listed x) mid new) s
        (subst (λ (u : BoxTable R kindR kindP). Counted prunes kindP.AXES (entries_of u) (centers_in f) (cuts_of u) (box_of f) (candidates_in f) mid new) (t ∙ p.table) h)))

    pub counted_cut : (first second : Visit R kindR kindP) → Parts w first second → (mid new : Tally) → (length (candidates_in w) ≡ 1 → ⊥) → CountedFrom prunes first noted mid → CountedFrom prunes second mid new → CountedFrom prunes v old new
    counted_cut first second parts mid new several h k =
        let i = parts.split.number in
        let a = from_part first (2 * i + 1) parts.first_table parts.first_candidates parts.split.first_is noted mid h in
        let b = from_part second (2 * i + 2) parts.second_table parts.second_candidates parts.split.second_is mid new k in
        let made = subst (λ (u : BoxTable R kindR kindP). i < length (cuts_of u)) p.table parts.split.made in
        let of = subst (λ (u : BoxTable R kindR kindP). (cut_at (cuts_of u) i).parent ≡ box_of v) p.table (parts.split.of ∙ p.same_box) in
        record {
          distances = a.distances + b.distances;
          queries = length (candidates_in v) - 1 + (a.queries + b.queries);
          costs = opened i p.left several made of a.costs b.costs;
          distances_are = omega (arith, a.distances_are, b.distances_are);
          queries_are = omega (arith, a.queries_are, b.queries_are);
        }

    pub counted_read : (new : Tally) → (length (candidates_in w) ≡ 1 → ⊥) → Uncut (cuts_in w) (box_of w) → new.distances ≡ (noted.distances + length (entries_in w) * length (candidates_in w)) % 2 ^ 64 → new.queries ≡ (noted.queries + 0) % 2 ^ 64 → CountedFrom prunes v old new
    counted_read new several uncut e f =
        let free : Uncut (cuts_in v) (box_of v) = subst (λ (u : BoxTable R kindR kindP). Uncut (cuts_of u) (box_of v)) p.table (subst (Uncut (cuts_in w)) p.same_box uncut) in
        let n : length (entries_in v) * length (candidates_in w) ≡ length (entries_in w) * length (candidates_in w) = ap (λ es. length es * length (candidates_in w)) (sym same_entries) in
        record { distances = length (entries_in v) * length (candidates_in w); queries = length (candidates_in v) - 1; costs = looked_at p.left several free; distances_are = omega (arith, n); queries_are = omega arith }
