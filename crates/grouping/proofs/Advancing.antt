-- Centers that go where their groups send them make a round.
use Rattle.std.proofs.Common.{◌≡◌, ℕ, zero, suc, ◌+◌, ◌<◌, ◌≤◌, List, [], ◌∷◌, ◌++◌, length, take, set, pos, ◌*ℤ◌, neg_ℤ, ◌≤ℤ◌, sym, refl, ap, ◌∙◌, subst, inl, inr, arith}
use borrow.Author.Differences.{ints}
use Rattle.std.proofs.lemmas.List.{get_or_past, get_or-set_other, take_more, take_more_set, take_all, length-map, length-take-le}
use Rattle.std.proofs.lemmas.Int.{clamps}
use Rattle.std.proofs.lemmas.Bool.{cases_lt}
use Rattle.points.specs.Kinds.{position_place, told}
use Rattle.points.specs.Entries.{Entry}
use Rattle.grouping.specs.declared.group.Group.{Group}
use Rattle.grouping.specs.Advances.{Sent, Advances, none, same, other}
use Rattle.grouping.specs.Choice.{center}
use Rattle.grouping.specs.Distance.{Place, number}
use Rattle.grouping.specs.Groups.{place_of, places, no_group, group_at, Flat, Tallied}
use Rattle.grouping.specs.Rounding.{Rounded}
use Rattle.grouping.specs.Rounds.{Moved, Changes}
use Rattle.grouping.specs.Rounds as rounds
use Rattle.grouping.specs.Totals.{weight, sum}
use Rattle.grouping.proofs.Grouped.{center_at, zeros}
use Rattle.grouping.proofs.Means.{mean_low, mean_high}
use Rattle.grouping.proofs.Moves.{same_numbers, number_of}
use Rattle.grouping.proofs.Totaled.{Modest, sum_low, sum_high}

-- ---- group by group

push_same : {axes : ℕ} {gs hs : List Group} {n : ℕ} (g h : Group) → Sent axes g h → place_of axes h.center ≡ place_of axes g.center → Advances axes gs hs n → Advances axes (gs ++ g ∷ []) (hs ++ h ∷ []) n
push_same g h s e none = same s e none
push_same g h s e (same t f rest) = same t f (push_same g h s e rest)
push_same g h s e (other t f rest) = other t f (push_same g h s e rest)

push_other : {axes : ℕ} {gs hs : List Group} {n : ℕ} (g h : Group) → Sent axes g h → (place_of axes h.center ≡ place_of axes g.center → ⊥) → Advances axes gs hs n → Advances axes (gs ++ g ∷ []) (hs ++ h ∷ []) (suc n)
push_other g h s e none = other s e none
push_other g h s e (same t f rest) = same t f (push_other g h s e rest)
push_other g h s e (other t f rest) = other t f (push_other g h s e rest)

-- the groups gs have been sent up to k, hs is what they are now, and n of them changed their place
abbrev pub AdvancedTo : ℕ → ℕ → List Group → List Group → ℕ → Type 0
AdvancedTo axes k gs hs n = Advances axes (take k gs) (take k hs) n × ((j : ℕ) → k ≤ j → group_at hs j ≡ group_at gs j) × (n ≤ k)

pub advanced_none : (axes : ℕ) (gs : List Group) → AdvancedTo axes 0 gs gs 0
advanced_none axes gs = (none, (λ j h. refl), omega arith)

module _ (axes k : ℕ) (gs hs : List Group) (n : ℕ) (h : Group) (lg : k < length gs) (lh : k < length hs) (so : AdvancedTo axes k gs hs n) (sent : Sent axes (group_at hs k) h) where
  later : (j : ℕ) → k + 1 ≤ j → group_at (set hs k h) j ≡ group_at gs j
  later j l = get_or-set_other hs k j h no_group (λ e. omega arith) ∙ so.1 j (omega arith)

  pub advanced_same : (m : ℕ) → m ≡ n → place_of axes h.center ≡ place_of axes (group_at hs k).center → AdvancedTo axes (k + 1) gs (set hs k h) m
  advanced_same m i e =
      let at = so.1 k (omega arith) in (
        rw (i, take_more gs k no_group lg, take_more_set hs k h lh) (push_same (group_at gs k) h (subst (λ g. Sent axes g h) at sent) (e ∙ ap (λ g. place_of axes g.center) at) so.0),
        later,
        omega (arith, so.2),
      )

  pub advanced_other : (m : ℕ) → m ≡ n + 1 → (place_of axes h.center ≡ place_of axes (group_at hs k).center → ⊥) → AdvancedTo axes (k + 1) gs (set hs k h) m
  advanced_other m i e =
      let at = so.1 k (omega arith) in
      let i' : m ≡ suc n = omega arith in (
        rw (i', take_more gs k no_group lg, take_more_set hs k h lh) (push_other (group_at gs k) h (subst (λ g. Sent axes g h) at sent) (λ z. e (z ∙ ap (λ g. place_of axes g.center) (sym at))) so.0),
        later,
        omega (arith, so.2),
      )

pub advanced_all : (axes k : ℕ) (gs hs : List Group) (n : ℕ) → length gs ≤ k → length hs ≤ k → AdvancedTo axes k gs hs n → Advances axes gs hs n
advanced_all axes k gs hs n lg lh so = rw (sym (take_all k gs lg), sym (take_all k hs lh)) so.0

-- ---- what it comes to

pub as_many : {axes : ℕ} {gs hs : List Group} {n : ℕ} → Advances axes gs hs n → length hs ≡ length gs
as_many none = refl
as_many (same s e rest) = ap suc (as_many rest)
as_many (other s e rest) = ap suc (as_many rest)

pub sent_at : {axes : ℕ} {gs hs : List Group} {n : ℕ} → Advances axes gs hs n → (k : ℕ) → k < length gs → Sent axes (group_at gs k) (group_at hs k)
sent_at none k l = absurd (omega arith)
sent_at (same s e rest) zero l = s
sent_at (same s e rest) (suc k) l = sent_at rest k (omega arith)
sent_at (other s e rest) zero l = s
sent_at (other s e rest) (suc k) l = sent_at rest k (omega arith)

pub changes_of : {axes : ℕ} {gs hs : List Group} {n : ℕ} → Advances axes gs hs n → Changes (places axes gs) (places axes hs) n
changes_of none = rounds.none
changes_of (same s e rest) = rounds.same e (changes_of rest)
changes_of (other s e rest) = rounds.other e (changes_of rest)

pub flat_of : {axes : ℕ} {gs hs : List Group} {n : ℕ} → Advances axes gs hs n → Flat axes hs
flat_of {gs = gs} {hs = hs} a k axis h = elim (cases_lt k (length gs)) [
  | inl l ↦ (sent_at a k l).flat axis h
  | inr l ↦ ap (λ g. number (position_place g.center) axis) (get_or_past hs k no_group (omega (arith, as_many a))) ∙ zeros axis
]

pub tallied_of : {axes : ℕ} {gs hs : List Group} {n : ℕ} {es : List Entry} {cs : List Place} → length cs ≡ length gs → Advances axes gs hs n → Tallied es cs gs → Tallied es cs hs
tallied_of e a t =
    record {
      weighs = λ k l. ap pos (sent_at a k (omega arith)).weight ∙ t.weighs k l;
      sums = λ k axis l h. ap (λ s. number s axis) (sent_at a k (omega arith)).sums ∙ t.sums k axis l h;
    }

-- the groups of all entries, moved on
module _ {axes : ℕ} {gs hs : List Group} {n : ℕ} {es : List Entry} (few : axes ≤ 4) (m : Modest es) (t : Tallied es (places axes gs) gs) (a : Advances axes gs hs n) where
  many : (xs : List Group) → length (places axes xs) ≡ length xs
  many xs = length-map xs (λ g. place_of axes g.center)

  under : (k : ℕ) → k < length (places axes gs) → k < length gs
  under k l = omega (arith, many gs)

  old : (k : ℕ) → k < length (places axes gs) → center (places axes gs) k ≡ place_of axes (group_at gs k).center
  old k l = center_at axes gs k (under k l)

  new : (k : ℕ) → k < length (places axes gs) → center (places axes hs) k ≡ place_of axes (group_at hs k).center
  new k l = center_at axes hs k (omega (arith, under k l, as_many a))

  long : (g : Group) → length (place_of axes g.center) ≡ axes
  long g = length-take-le axes (position_place g.center) few

  mean_at : (k : ℕ) → k < length (places axes gs) → (weight es (places axes gs) k ≡ pos 0 → ⊥) → (axis : ℕ) → axis < axes → Rounded (sum es (places axes gs) k axis) (weight es (places axes gs) k) (number (center (places axes hs) k) axis)
  mean_at k l some axis h =
      let g = group_at gs k in
      let w = t.weighs k l in
      let s = t.sums k axis l (omega arith) in
      let go = ((sent_at a k (under k l)).goes axis h).goes (λ z. some (sym w ∙ ap pos z)) in
      let r : Rounded (sum es (places axes gs) k axis) (pos g.weight) go.0 = subst (λ x. Rounded x (pos g.weight) go.0) s go.1.0 in
      let p : 0 < g.weight = elim (cases_lt 0 g.weight) [ inl q ↦ q | inr q ↦ absurd (some (sym w ∙ ap pos (omega arith))) ] in
      let low = mean_low _ g.weight go.0 p r (subst (λ x. neg_ℤ (pos 32768 *ℤ x) ≤ℤ sum es (places axes gs) k axis) (sym w) (sum_low (places axes gs) k es axis m.ranged)) in
      let high = mean_high _ g.weight go.0 p r (subst (λ x. sum es (places axes gs) k axis ≤ℤ (pos 32767 *ℤ x)) (sym w) (sum_high (places axes gs) k es axis m.ranged)) in
      let same : told go.0 ≡ go.0 = omega (arith, ints, clamps) in
      let at : number (center (places axes hs) k) axis ≡ go.0 = ap (λ p. number p axis) (new k l) ∙ number_of axes (group_at hs k).center axis h ∙ go.1.1 ∙ same in
      subst (λ x. Rounded (sum es (places axes gs) k axis) x (number (center (places axes hs) k) axis)) w (subst (Rounded (sum es (places axes gs) k axis) (pos g.weight)) (sym at) r)

  pub moved_of : Moved es (places axes gs) (places axes hs)
  moved_of =
      record {
        as_many = many hs ∙ as_many a ∙ sym (many gs);
        as_long = λ k l. ap length (new k l) ∙ long (group_at hs k) ∙ sym (ap length (old k l) ∙ long (group_at gs k));
        stays = λ k l z. new k l ∙ same_numbers axes (group_at hs k).center (group_at gs k).center few (λ j h. ((sent_at a k (under k l)).goes j h).stays (omega (arith, ints, t.weighs k l, z))) ∙ sym (old k l);
        goes = λ k l some axis h. mean_at k l some axis (omega (arith, ap length (old k l), long (group_at gs k)));
      }
