-- The two sides of a cut: how many entries they have, and what that says against the cut.
use Rattle.std.proofs.Common.{◌≡◌, ℕ, ◌+◌, ◌-◌, ◌<◌, ◌≤◌, Bool, true, false, cond, not, ◌⊎◌, List, [], ◌∷◌, length, filter, sym, refl, ap, ◌∙◌, ap₂, inl, inr, arith}
use Rattle.std.specs.List.{between}
use Rattle.std.proofs.lemmas.List.Edits.{length-between}
use Rattle.std.proofs.lemmas.List.{length-map}
use Rattle.std.proofs.lemmas.Bool.{cases_lt}
use Rattle.points.specs.declared.point.Point.{Ghosts as PointGhosts}
use Rattle.points.specs.declared.record.Record.{Ghosts as RecordGhosts}
use Rattle.points.specs.Entries.{Entry, entries}
use Rattle.boxes.specs.declared.cut.Cut.{Cut}
use Rattle.boxes.specs.declared.fault.CutFault.{CutFault}
use Rattle.boxes.specs.declared.fault.CutFault.TheVariants.{NoUncutBox, NoAxis, Full, OneSided}
use Rattle.boxes.specs.declared.node.BoxNode.{BoxNode}
use Rattle.boxes.specs.declared.table.BoxTable.{BoxTable}
use Rattle.boxes.specs.Faults.{number_of, lower_side, upper_side, Against, Refused, Accepted}
use Rattle.boxes.specs.Regions.{below, boxes_after, contents, Uncut}
use Rattle.boxes.specs.Runs.{entry_at, picked, under, lower}
use Rattle.boxes.specs.Standing.{cuts_of, entries_of, run_of}
use Rattle.boxes.specs.Table.{node_at}
use Rattle.boxes.proofs.Cuttings.{run_same}
use Rattle.boxes.proofs.Sameness.{Same, length_same, kept_same, kept_map}
use Rattle.boxes.proofs.Tables.{count_is, has_runs, order_long, stands}

-- what passes a test and what does not are all
kept_parts : {X : Type 0} (t : X → Bool) (xs : List X) → length (filter t xs) + length (filter (λ x. not (t x)) xs) ≡ length xs
kept_parts t [] = refl
kept_parts t (x ∷ xs) = one (t x) (kept_parts t xs)
  where
    one : (b : Bool) → length (filter t xs) + length (filter (λ y. not (t y)) xs) ≡ length xs →
        length (cond b (x ∷ filter t xs) (filter t xs)) + length (cond (not b) (x ∷ filter (λ y. not (t y)) xs) (filter (λ y. not (t y)) xs)) ≡ length (x ∷ xs)
    one true e = omega arith
    one false e = omega arith

-- no more lie below than there are
pub lower_within : (es : List Entry) (c : Cut) (n : BoxNode) (order : List ℕ) → n.to ≤ length order → lower es c n order ≤ n.to - n.from
lower_within es c n order l = omega (arith, kept_parts (under es c) (between n.from n.to order), length-between order n.from n.to l)

empty : {X : Type 0} (xs : List X) → length xs ≡ 0 → xs ≡ []
empty [] e = refl
empty (x ∷ xs) e = absurd (omega arith)

module _ {R : Type 0} {kindP : PointGhosts R} {kindR : RecordGhosts R} (t : BoxTable R kindR kindP) where
  -- the run of a box has its entries
  pub box_same : (b : ℕ) → b < boxes_after (cuts_of t) → Same (contents (cuts_of t) b (entries_of t)) (picked (entries_of t) (run_of t b))
  box_same b l = let r = has_runs t b l in run_same (entries_of t) (cuts_of t) t.nodes t.order (stands t) (order_long t) b l (omega (arith, r.0)) r.1

  -- a box has as many entries as its run has numbers
  pub box_length : (b : ℕ) → b < boxes_after (cuts_of t) → length (contents (cuts_of t) b (entries_of t)) ≡ (node_at t.nodes b).to - (node_at t.nodes b).from
  box_length b l =
      let n = node_at t.nodes b in
      length_same _ _ (box_same b l) ∙ length-map (run_of t b) (λ i. entry_at (entries_of t) i) ∙ length-between t.order n.from n.to (omega (arith, (has_runs t b l).1, order_long t))

  -- what is counted below a cut in the run of a box
  pub counted_run : (b : ℕ) (c : Cut) (rs : List R) (ns : List ℕ) (n : ℕ) → n ≡ length (filter (under (entries kindP kindR rs) c) ns) → rs ≡ t.recording.records.now → ns ≡ run_of t b → n ≡ lower (entries_of t) c (node_at t.nodes b) t.order
  counted_run b c rs ns n e r m = e ∙ ap₂ (λ xs is. length (filter (under (entries kindP kindR xs) c) is)) r m

  module _ (c : Cut) (stood : c.parent < boxes_after (cuts_of t)) where
    pub lower_count : length (lower_side (cuts_of t) c (entries_of t)) ≡ lower (entries_of t) c (node_at t.nodes c.parent) t.order
    lower_count = kept_same (λ e. below c e.place) _ _ (box_same c.parent stood) ∙ kept_map (λ e. below c e.place) (λ i. entry_at (entries_of t) i) (run_of t c.parent)

    pub both_count : length (lower_side (cuts_of t) c (entries_of t)) + length (upper_side (cuts_of t) c (entries_of t)) ≡ length (contents (cuts_of t) c.parent (entries_of t))
    both_count = kept_parts (λ e. below c e.place) (contents (cuts_of t) c.parent (entries_of t))

    pub one_sided : (axes : ℕ) → (lower (entries_of t) c (node_at t.nodes c.parent) t.order ≡ 0) ⊎ (lower (entries_of t) c (node_at t.nodes c.parent) t.order ≡ length (contents (cuts_of t) c.parent (entries_of t))) → Against axes (entries_of t) (cuts_of t) c OneSided
    one_sided axes (inl e) = inl (empty (lower_side (cuts_of t) c (entries_of t)) (lower_count ∙ e))
    one_sided axes (inr e) = inr (empty (upper_side (cuts_of t) c (entries_of t)) (omega (arith, lower_count, both_count)))

    -- both sides have entries
    pub two_sided : (axes : ℕ) → (lower (entries_of t) c (node_at t.nodes c.parent) t.order ≡ 0 → ⊥) → (lower (entries_of t) c (node_at t.nodes c.parent) t.order ≡ length (contents (cuts_of t) c.parent (entries_of t)) → ⊥) → Against axes (entries_of t) (cuts_of t) c OneSided → ⊥
    two_sided axes n m (inl e) = n (sym lower_count ∙ ap length e)
    two_sided axes n m (inr e) = m (omega (arith, lower_count, both_count, ap length e))

  -- what an accepted cut tells of the table
  module _ (axes : ℕ) (c : Cut) (ok : Accepted axes (entries_of t) (cuts_of t) c) where
    pub stood_of : c.parent < boxes_after (cuts_of t)
    stood_of = elim (cases_lt c.parent (boxes_after (cuts_of t))) [ inl l ↦ l | inr l ↦ absurd (ok NoUncutBox (inl l)) ]

    pub uncut_of : Uncut (cuts_of t) c.parent
    uncut_of i l e = ok NoUncutBox (inr (λ u. u i l e))

    pub room_of : t.count < 127
    room_of = omega (arith, t.few, count_is t, ok Full)

    pub lower_of : 0 < lower (entries_of t) c (node_at t.nodes c.parent) t.order
    lower_of = elim (cases_lt 0 (lower (entries_of t) c (node_at t.nodes c.parent) t.order)) [ inl l ↦ l | inr l ↦ absurd (ok OneSided (one_sided c stood_of axes (inl (omega (arith, l))))) ]

    pub upper_of : lower (entries_of t) c (node_at t.nodes c.parent) t.order < (node_at t.nodes c.parent).to - (node_at t.nodes c.parent).from
    upper_of = elim (cases_lt (lower (entries_of t) c (node_at t.nodes c.parent) t.order) ((node_at t.nodes c.parent).to - (node_at t.nodes c.parent).from)) [
      | inl l ↦ l
      | inr l ↦ absurd (ok OneSided (one_sided c stood_of axes (inr (omega (arith, l, box_length c.parent stood_of, lower_within (entries_of t) c (node_at t.nodes c.parent) t.order (omega (arith, (has_runs t c.parent stood_of).1, order_long t)))))))
    ]

-- which fault is reported
module _ (axes : ℕ) (es : List Entry) (cuts : List Cut) (c : Cut) where
  pub refused : (fault : CutFault) → Against axes es cuts c fault → (4 < number_of fault → Against axes es cuts c NoUncutBox → ⊥) → (5 < number_of fault → Against axes es cuts c NoAxis → ⊥) → (6 < number_of fault → Against axes es cuts c Full → ⊥) → Refused axes es cuts c fault
  refused fault r x y z = record { reason = r; first = first }
    where
      last : (f : CutFault) → 7 < number_of f → ⊥
      last NoUncutBox l = omega (arith, l)
      last NoAxis l = omega (arith, l)
      last Full l = omega (arith, l)
      last OneSided l = omega (arith, l)

      first : (other : CutFault) → number_of other < number_of fault → Against axes es cuts c other → ⊥
      first NoUncutBox l = x l
      first NoAxis l = y l
      first Full l = z l
      first OneSided l = absurd (last fault l)

  pub is_free : c.parent < boxes_after cuts → Uncut cuts c.parent → Against axes es cuts c NoUncutBox → ⊥
  is_free l u (inl k) = omega arith
  is_free l u (inr n) = n u

  pub accepted : (Against axes es cuts c NoUncutBox → ⊥) → (Against axes es cuts c NoAxis → ⊥) → (Against axes es cuts c Full → ⊥) → (Against axes es cuts c OneSided → ⊥) → Accepted axes es cuts c
  accepted x y z w NoUncutBox = x
  accepted x y z w NoAxis = y
  accepted x y z w Full = z
  accepted x y z w OneSided = w
