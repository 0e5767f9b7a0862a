-- Records that are put into groups, one by one.
use Rattle.std.proofs.Common.{◌≡◌, ℕ, ◌+◌, ◌<◌, ◌≤◌, List, [], ◌∷◌, ◌++◌, length, get_or, take, set, pos, negsuc, ◌+ℤ◌, ◌*ℤ◌, ◌≤ℤ◌, sym, ap, ◌∙◌, inl, inr, arith}
use borrow.Author.Differences.{ints}
use Rattle.std.proofs.lemmas.List.{get_or-set_same, get_or-set_other, length-map, length-take-le, map_more}
use Rattle.std.proofs.lemmas.Bool.{cases_eq}
use Rattle.points.specs.declared.point.Point.{Ghosts as PointGhosts}
use Rattle.points.specs.declared.record.Record.{Ghosts as RecordGhosts}
use Rattle.points.specs.Entries.{Entry, entry, entries}
use Rattle.grouping.specs.declared.group.Group.{Group}
use Rattle.grouping.specs.Choice.{choose}
use Rattle.grouping.specs.Distance.{Place, number}
use Rattle.grouping.specs.Groups.{place_of, centers, places, no_group, group_at, Tallied}
use Rattle.grouping.proofs.Grouped.{centers_set, places_same}
use Rattle.grouping.proofs.Totaled.{Modest, modest_entries, weight_in, weight_out, sum_in, sum_out, weight_none, sum_none, weight_high, sum_low, sum_high}
use Rattle.direct.specs.Additions.{Clear, Room, Added}

pub tallied_none : (cs : List Place) (gs : List Group) → length cs ≡ length gs → Clear gs → Tallied [] cs gs
tallied_none cs gs e c =
    record {
      weighs = λ k l. ap pos (c.weight k (omega arith)) ∙ sym (weight_none cs k);
      sums = λ k axis l h. c.sums k axis (omega arith) ∙ sym (sum_none cs k axis);
    }

pub room : (es : List Entry) (cs : List Place) (gs : List Group) (k : ℕ) → Modest es → length es ≤ 4095 → k < length cs → Tallied es cs gs → Room (group_at gs k)
room es cs gs k m few l t =
    let w = t.weighs k l in
    let high = weight_high cs k es m.held in
    record {
      weight = omega (arith, ints);
      low = λ axis h. omega (arith, ints, t.sums k axis l h, sum_low cs k es axis m.ranged);
      high = λ axis h. omega (arith, ints, t.sums k axis l h, sum_high cs k es axis m.ranged);
    }

-- the entry e joins the group of the center that it chooses
pub tallied_more : (es : List Entry) (e : Entry) (cs : List Place) (gs : List Group) (k : ℕ) (h : Group) →
    k ≡ choose cs e.place → k < length gs → Added (group_at gs k) e.place e.hold h → Tallied es cs gs → Tallied (es ++ e ∷ []) cs (set gs k h)
tallied_more es e cs gs k h i l ad t =
    record {
      weighs = λ j lj. elim (cases_eq j k) [
        | inl q ↦ ap (λ x. pos (group_at (set gs k h) x).weight) q ∙ ap (λ g. pos g.weight) (get_or-set_same gs k h no_group l) ∙ ap pos ad.weight ∙ ap (λ x. x +ℤ pos e.hold) (ap (λ x. pos (group_at gs x).weight) (sym q) ∙ t.weighs j lj) ∙ sym (weight_in es e cs j (sym (q ∙ i)))
        | inr n ↦ ap (λ g. pos g.weight) (get_or-set_other gs k j h no_group n) ∙ t.weighs j lj ∙ sym (weight_out es e cs j (λ z. n (sym z ∙ sym i)))
      ];
      sums = λ j axis lj la. elim (cases_eq j k) [
        | inl q ↦ ap (λ x. number (group_at (set gs k h) x).sums axis) q ∙ ap (λ g. number g.sums axis) (get_or-set_same gs k h no_group l) ∙ ad.sums axis la ∙ ap (λ x. x +ℤ pos e.hold *ℤ number e.place axis) (ap (λ x. number (group_at gs x).sums axis) (sym q) ∙ t.sums j axis lj la) ∙ sym (sum_in es e cs j (sym (q ∙ i)) axis)
        | inr n ↦ ap (λ g. number g.sums axis) (get_or-set_other gs k j h no_group n) ∙ t.sums j axis lj la ∙ sym (sum_out es e cs j (λ z. n (sym z ∙ sym i)) axis)
      ];
    }

-- ---- groups that are cleared up to k

abbrev pub ClearTo : ℕ → List Group → List Group → Type 0
ClearTo k gs hs =
    (centers hs ≡ centers gs)
    × ((j : ℕ) → j < k → (group_at hs j).weight ≡ 0)
    × ((j axis : ℕ) → j < k → number (group_at hs j).sums axis ≡ pos 0)

pub clear_more : (k : ℕ) (gs hs : List Group) (h : Group) → k < length hs → h.center ≡ (group_at hs k).center → h.weight ≡ 0 → ((axis : ℕ) → number h.sums axis ≡ pos 0) → ClearTo k gs hs → ClearTo (k + 1) gs (set hs k h)
clear_more k gs hs h l e w s so = (
  centers_set hs k h e ∙ so.0,
  λ j lj. elim (cases_eq j k) [
    | inl q ↦ ap (λ x. (group_at (set hs k h) x).weight) q ∙ ap (λ g. g.weight) (get_or-set_same hs k h no_group l) ∙ w
    | inr n ↦ ap (λ g. g.weight) (get_or-set_other hs k j h no_group n) ∙ so.1 j (omega arith)
  ],
  λ j axis lj. elim (cases_eq j k) [
    | inl q ↦ ap (λ x. number (group_at (set hs k h) x).sums axis) q ∙ ap (λ g. number g.sums axis) (get_or-set_same hs k h no_group l) ∙ s axis
    | inr n ↦ ap (λ g. number g.sums axis) (get_or-set_other hs k j h no_group n) ∙ so.2 j axis (omega arith)
  ],
)

-- ---- records

module _ {R : Type 0} (kindP : PointGhosts R) (kindR : RecordGhosts R)
    (ranged : (p : R) (k : ℕ) → (negsuc 32767 ≤ℤ get_or (kindP.place p) k (pos 0)) × (get_or (kindP.place p) k (pos 0) ≤ℤ pos 32767))
    (held : (r : R) → (1 ≤ kindR.hold r) × (kindR.hold r ≤ 65535))
    (rs : List R) (i : ℕ) (r : R) (l : i < length rs) (is : r ≡ get_or rs i r) (old gs : List Group) (many : length gs ≡ length old)
    (t : Tallied (entries kindP kindR (take i rs)) (places kindP.AXES old) gs) where
  wide : length (places kindP.AXES old) ≡ length gs
  wide = length-map old (λ g. place_of kindP.AXES g.center) ∙ sym many

  -- a record finds room in every group
  pub record_room : length rs ≤ 4096 → (k : ℕ) → k < length gs → Room (group_at gs k)
  record_room few k h =
      room (entries kindP kindR (take i rs)) (places kindP.AXES old) gs k (modest_entries kindP kindR ranged held (take i rs)) (omega (arith, length-map (take i rs) (λ x. entry kindP kindR x), length-take-le i rs (omega arith))) (omega (arith, wide)) t

  -- and joins that of its nearest center
  pub record_joins : centers gs ≡ centers old → (k : ℕ) (h : Group) (hs : List Group) → k < length gs → k ≡ choose (places kindP.AXES gs) (kindP.place r) → Added (group_at gs k) (kindP.place r) (kindR.hold r) h → hs ≡ set gs k h →
      Tallied (entries kindP kindR (take (i + 1) rs)) (places kindP.AXES old) hs × (centers hs ≡ centers old)
  record_joins e k h hs lk i' ad eh = (
    rw (eh, map_more (λ x. entry kindP kindR x) rs i r l, sym is) (tallied_more (entries kindP kindR (take i rs)) (entry kindP kindR r) (places kindP.AXES old) gs k h (i' ∙ ap (λ cs. choose cs (kindP.place r)) (places_same kindP.AXES gs old e)) lk ad t),
    ap centers eh ∙ centers_set gs k h ad.center ∙ e,
  )

  -- with no center there is nothing to tell
  pub record_none : centers gs ≡ centers old → (hs : List Group) → length gs ≡ 0 → hs ≡ gs → Tallied (entries kindP kindR (take (i + 1) rs)) (places kindP.AXES old) hs × (centers hs ≡ centers old)
  record_none e hs z eh = (record { weighs = λ k lk. absurd (omega (arith, wide)); sums = λ k axis lk la. absurd (omega (arith, wide)) }, ap centers eh ∙ e)
