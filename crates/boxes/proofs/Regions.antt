-- Which places the boxes have, cut by cut.
use Rattle.std.proofs.Common.{◌≡◌, ℕ, ◌+◌, ◌-◌, ◌*◌, ◌<◌, ◌≤◌, Bool, true, false, not, ◌&&◌, List, [], ◌∷◌, ◌++◌, length, sym, refl, ap, ◌∙◌, subst, ap₂, inl, inr, append_assoc, append-nil, arith, length-append}
use Rattle.std.proofs.lemmas.List.{get_or_append_left, get_or-append_right}
use Rattle.std.proofs.lemmas.List.Sums.{fold_push}
use Rattle.std.proofs.lemmas.Bool.{cases_eq, cases_lt, both_ways, and_parts, and_from, cases_Bool}
use Rattle.grouping.specs.Distance.{Place}
use Rattle.boxes.specs.declared.cut.Cut.{Cut}
use Rattle.boxes.specs.Laws.{OneSmallest}
use Rattle.boxes.specs.Regions.{Region, region_at, below, divided, regions, boxes_after, holds, cut_at, Uncut, Logged, Smallest, SplitInto}

-- what holds without cuts, and of one cut more, holds of all lists of cuts
by_cuts : (P : List Cut → Type 0) → P [] → ((cuts : List Cut) (c : Cut) → P cuts → P (cuts ++ c ∷ [])) → (cuts : List Cut) → P cuts
by_cuts P none more cuts = on [] cuts none
  where
    on : (made rest : List Cut) → P made → P (made ++ rest)
    on made [] h = subst P (sym (append-nil made)) h
    on made (c ∷ rest) h = subst P (append_assoc made (c ∷ []) rest) (on (made ++ c ∷ []) rest (more made c h))

-- ---- one cut more

pub boxes_more : (cuts : List Cut) (c : Cut) → boxes_after (cuts ++ c ∷ []) ≡ boxes_after cuts + 2
boxes_more cuts c = simp length-append (omega arith)

regions_more : (cuts : List Cut) (c : Cut) → regions (cuts ++ c ∷ []) ≡ divided (regions cuts) c
unfolding regions
regions_more cuts c = fold_push divided ((λ p. true) ∷ []) cuts c

regions_none : regions [] ≡ (λ p. true) ∷ []
unfolding regions
regions_none = refl

length_regions : (cuts : List Cut) → length (regions cuts) ≡ boxes_after cuts
length_regions =
    by_cuts (λ cuts. length (regions cuts) ≡ boxes_after cuts) (ap length regions_none)
    (λ cuts c h. ap length (regions_more cuts c) ∙ length-append (regions cuts) _ ∙ omega (arith, h, boxes_more cuts c))

-- every place lies in box 0
pub holds_root : (cuts : List Cut) (p : Place) → holds cuts 0 p ≡ true
unfolding holds
holds_root cuts p = ap (λ r. r p) (root cuts)
  where
    root : (cuts : List Cut) → region_at (regions cuts) 0 ≡ (λ p. true)
    root =
        by_cuts (λ cuts. region_at (regions cuts) 0 ≡ (λ p. true)) (ap (λ rs. region_at rs 0) regions_none)
        (λ cuts c h. ap (λ rs. region_at rs 0) (regions_more cuts c) ∙ get_or_append_left (regions cuts) _ _ 0 (omega (arith, length_regions cuts)) ∙ h)

-- a box keeps its places
pub holds_old : (cuts : List Cut) (c : Cut) (b : ℕ) (p : Place) → b < boxes_after cuts → holds (cuts ++ c ∷ []) b p ≡ holds cuts b p
unfolding holds
holds_old cuts c b p l = ap (λ r. r p) (ap (λ rs. region_at rs b) (regions_more cuts c) ∙ get_or_append_left (regions cuts) _ _ b (omega (arith, length_regions cuts)))

-- the two new regions
new_pair : List Cut → Cut → List Region
new_pair cuts c = (λ p. region_at (regions cuts) c.parent p && below c p) ∷ (λ p. region_at (regions cuts) c.parent p && not (below c p)) ∷ []

holds_new : (cuts : List Cut) (c : Cut) (b i : ℕ) (p : Place) → b ≡ boxes_after cuts + i → holds (cuts ++ c ∷ []) b p ≡ region_at (new_pair cuts c) i p
unfolding holds new_pair
holds_new cuts c b i p e =
    let z : b - boxes_after cuts ≡ i = omega arith in
    ap (λ r. r p) (ap (λ rs. region_at rs b) (regions_more cuts c) ∙ get_or-append_right (regions cuts) (new_pair cuts c) (boxes_after cuts) b (λ q. false) (length_regions cuts) (omega arith) ∙ ap (region_at (new_pair cuts c)) z)

-- the first of the two new boxes has those of the cut one below the value
pub holds_first : (cuts : List Cut) (c : Cut) (b : ℕ) (p : Place) → b ≡ boxes_after cuts → holds (cuts ++ c ∷ []) b p ≡ (holds cuts c.parent p && below c p)
unfolding holds new_pair
holds_first cuts c b p e = holds_new cuts c b 0 p (omega arith)

-- and the second the others
pub holds_second : (cuts : List Cut) (c : Cut) (b : ℕ) (p : Place) → b ≡ boxes_after cuts + 1 → holds (cuts ++ c ∷ []) b p ≡ (holds cuts c.parent p && not (below c p))
unfolding holds new_pair
holds_second cuts c b p e = holds_new cuts c b 1 p e

-- ---- the list of cuts before the last, and with it

-- a box of a list with one cut more: an old one, or the first or the second new one
data Which (cuts : List Cut) (b : ℕ) : Type 0 where
  old : b < boxes_after cuts → Which cuts b
  first : b ≡ boxes_after cuts → Which cuts b
  second : b ≡ boxes_after cuts + 1 → Which cuts b

module _ (cuts : List Cut) (c : Cut) where
  length_more : length (cuts ++ c ∷ []) ≡ length cuts + 1
  length_more = length-append cuts (c ∷ [])

  pub cut_old : (i : ℕ) → i < length cuts → cut_at (cuts ++ c ∷ []) i ≡ cut_at cuts i
  cut_old i l = get_or_append_left cuts (c ∷ []) _ i l

  pub cut_new : (i : ℕ) → i ≡ length cuts → cut_at (cuts ++ c ∷ []) i ≡ c
  cut_new i e =
      let z : i - length cuts ≡ 0 = omega arith in
      get_or-append_right cuts (c ∷ []) (length cuts) i _ refl (omega arith) ∙ ap (cut_at (c ∷ [])) z

  parent_old : (i : ℕ) → i < length cuts → (cut_at (cuts ++ c ∷ []) i).parent ≡ (cut_at cuts i).parent
  parent_old i l = ap (λ d. d.parent) (cut_old i l)

  parent_new : (i : ℕ) → i ≡ length cuts → (cut_at (cuts ++ c ∷ []) i).parent ≡ c.parent
  parent_new i e = ap (λ d. d.parent) (cut_new i e)

  pub uncut_before : (b : ℕ) → Uncut (cuts ++ c ∷ []) b → Uncut cuts b
  uncut_before b u i l e = u i (omega (arith, length_more)) (parent_old i l ∙ e)

  pub not_parent : (b : ℕ) → Uncut (cuts ++ c ∷ []) b → b ≡ c.parent → ⊥
  not_parent b u e = u (length cuts) (omega (arith, length_more)) (parent_new (length cuts) refl ∙ sym e)

  pub uncut_more : (b : ℕ) → Uncut cuts b → (b ≡ c.parent → ⊥) → Uncut (cuts ++ c ∷ []) b
  uncut_more b u n i l e = elim (cases_lt i (length cuts)) [
    | inl m ↦ u i m (sym (parent_old i m) ∙ e)
    | inr m ↦ n (sym (sym (parent_new i (omega (arith, length_more))) ∙ e))
  ]

  pub logged_before : Logged (cuts ++ c ∷ []) → Logged cuts
  logged_before g =
      record {
        stood = λ i l. subst (λ n. n < 2 * i + 1) (parent_old i l) (g.stood i (omega (arith, length_more)));
        once = λ i j l m e. g.once i j l (omega (arith, length_more)) (parent_old i (omega arith) ∙ e ∙ sym (parent_old j m));
      }

  parent_stood : Logged (cuts ++ c ∷ []) → c.parent < boxes_after cuts
  parent_stood g = subst (λ n. n < boxes_after cuts) (parent_new (length cuts) refl) (g.stood (length cuts) (omega (arith, length_more)))

  parent_uncut : Logged (cuts ++ c ∷ []) → Uncut cuts c.parent
  parent_uncut g i l e = g.once i (length cuts) l (omega (arith, length_more)) (parent_old i l ∙ e ∙ sym (parent_new (length cuts) refl))

  pub logged_more : Logged cuts → c.parent < boxes_after cuts → Uncut cuts c.parent → Logged (cuts ++ c ∷ [])
  logged_more g s u =
      record {
        stood = λ i l. elim (cases_lt i (length cuts)) [
          | inl m ↦ subst (λ n. n < 2 * i + 1) (sym (parent_old i m)) (g.stood i m)
          | inr m ↦ let e : i ≡ length cuts = omega (arith, length_more) in subst (λ n. n < 2 * i + 1) (sym (parent_new i e)) (omega arith)
        ];
        once = λ i j l m e. elim (cases_lt j (length cuts)) [
          | inl n ↦ g.once i j l n (sym (parent_old i (omega arith)) ∙ e ∙ parent_old j n)
          | inr n ↦ let k : i < length cuts = omega (arith, length_more) in u i k (sym (parent_old i k) ∙ e ∙ parent_new j (omega (arith, length_more)))
        ];
      }

  which : (b : ℕ) → b < boxes_after (cuts ++ c ∷ []) → Which cuts b
  which b l = elim (cases_lt b (boxes_after cuts)) [
    | inl m ↦ old m
    | inr m ↦ elim (cases_eq b (boxes_after cuts)) [ inl e ↦ first e | inr n ↦ second (omega (arith, boxes_more cuts c)) ]
  ]

  -- what lies in a new box lies in the cut one
  from_first : (b : ℕ) (p : Place) → b ≡ boxes_after cuts → holds (cuts ++ c ∷ []) b p ≡ true → (holds cuts c.parent p ≡ true) × (below c p ≡ true)
  from_first b p e h = and_parts (holds cuts c.parent p) (below c p) (sym (holds_first cuts c b p e) ∙ h)

  from_second : (b : ℕ) (p : Place) → b ≡ boxes_after cuts + 1 → holds (cuts ++ c ∷ []) b p ≡ true → (holds cuts c.parent p ≡ true) × (not (below c p) ≡ true)
  from_second b p e h = and_parts (holds cuts c.parent p) (not (below c p)) (sym (holds_second cuts c b p e) ∙ h)

-- ---- a place has one smallest box

-- no place lies in two uncut boxes
Apart : List Cut → Type 0
Apart cuts = Logged cuts → (b d : ℕ) → b < boxes_after cuts → d < boxes_after cuts → Uncut cuts b → Uncut cuts d → (p : Place) → holds cuts b p ≡ true → holds cuts d p ≡ true → b ≡ d

apart_more : (cuts : List Cut) (c : Cut) → Apart cuts → Apart (cuts ++ c ∷ [])
unfolding Apart
apart_more cuts c ih g b d lb ld ub ud p hb hd = elim (which cuts c b lb) [
  | old l ↦ elim (which cuts c d ld) [
    | old m ↦ ih before b d l m (uncut_before cuts c b ub) (uncut_before cuts c d ud) p (sym (holds_old cuts c b p l) ∙ hb) (sym (holds_old cuts c d p m) ∙ hd)
    | first e ↦ absurd (beside b l ub hb (from_first cuts c d p e hd).0)
    | second e ↦ absurd (beside b l ub hb (from_second cuts c d p e hd).0)
  ]
  | first e ↦ elim (which cuts c d ld) [
    | old m ↦ absurd (beside d m ud hd (from_first cuts c b p e hb).0)
    | first f ↦ omega arith
    | second f ↦ absurd (sides (from_first cuts c b p e hb).1 (from_second cuts c d p f hd).1)
  ]
  | second e ↦ elim (which cuts c d ld) [
    | old m ↦ absurd (beside d m ud hd (from_second cuts c b p e hb).0)
    | first f ↦ absurd (sides (from_first cuts c d p f hd).1 (from_second cuts c b p e hb).1)
    | second f ↦ omega arith
  ]
]
  where
    before : Logged cuts
    before = logged_before cuts c g

    -- an old box that is still uncut, and the cut one
    beside : (b : ℕ) → b < boxes_after cuts → Uncut (cuts ++ c ∷ []) b → holds (cuts ++ c ∷ []) b p ≡ true → holds cuts c.parent p ≡ true → ⊥
    beside b l u h k = not_parent cuts c b u (ih before b c.parent l (parent_stood cuts c g) (uncut_before cuts c b u) (parent_uncut cuts c g) p (sym (holds_old cuts c b p l) ∙ h) k)

    sides : below c p ≡ true → not (below c p) ≡ true → ⊥
    sides s t = both_ways (not (below c p)) (ap not s) t

apart : (cuts : List Cut) → Apart cuts
unfolding Apart
apart = by_cuts Apart (λ g b d lb ld ub ud p hb hd. omega arith) apart_more

pub one_smallest : (cuts : List Cut) (p : Place) (b d : ℕ) → Logged cuts → Smallest cuts p b → Smallest cuts p d → b ≡ d
unfolding Apart
one_smallest cuts p b d g s t = apart cuts g b d s.there t.there s.uncut t.uncut p s.has t.has

-- ---- which boxes a place lies in depends on its smallest box alone

Alike : List Cut → Type 0
Alike cuts = Logged cuts → (b d : ℕ) → b < boxes_after cuts → d < boxes_after cuts → Uncut cuts b → (p q : Place) → holds cuts b p ≡ true → holds cuts b q ≡ true → holds cuts d p ≡ holds cuts d q

alike_more : (cuts : List Cut) (c : Cut) → Alike cuts → Alike (cuts ++ c ∷ [])
unfolding Alike Apart
alike_more cuts c ih g b d lb ld ub p q hp hq = elim (which cuts c b lb) [
  | old l ↦ old_box l (which cuts c d ld)
  | first e ↦ new_box (from_first cuts c b p e hp).0 (from_first cuts c b q e hq).0 ((from_first cuts c b p e hp).1 ∙ sym (from_first cuts c b q e hq).1) (which cuts c d ld)
  | second e ↦ new_box (from_second cuts c b p e hp).0 (from_second cuts c b q e hq).0 (not_same (below c p) (below c q) ((from_second cuts c b p e hp).1 ∙ sym (from_second cuts c b q e hq).1)) (which cuts c d ld)
]
  where
    before : Logged cuts
    before = logged_before cuts c g

    not_same : (x y : Bool) → not x ≡ not y → x ≡ y
    not_same true true e = refl
    not_same true false e = sym e
    not_same false true e = sym e
    not_same false false e = refl

    -- the box that was cut has no place of another uncut one
    outside : b < boxes_after cuts → (r : Place) → holds (cuts ++ c ∷ []) b r ≡ true → holds cuts c.parent r ≡ false
    outside l r h = elim (cases_Bool (holds cuts c.parent r)) [
      | inl t ↦ absurd (not_parent cuts c b ub (apart cuts before b c.parent l (parent_stood cuts c g) (uncut_before cuts c b ub) (parent_uncut cuts c g) r (sym (holds_old cuts c b r l) ∙ h) t))
      | inr f ↦ f
    ]

    old_box : b < boxes_after cuts → Which cuts d → holds (cuts ++ c ∷ []) d p ≡ holds (cuts ++ c ∷ []) d q
    old_box l (old m) = holds_old cuts c d p m ∙ ih before b d l m (uncut_before cuts c b ub) p q (sym (holds_old cuts c b p l) ∙ hp) (sym (holds_old cuts c b q l) ∙ hq) ∙ sym (holds_old cuts c d q m)
    old_box l (first e) = holds_first cuts c d p e ∙ ap (λ x. x && below c p) (outside l p hp) ∙ sym (holds_first cuts c d q e ∙ ap (λ x. x && below c q) (outside l q hq))
    old_box l (second e) = holds_second cuts c d p e ∙ ap (λ x. x && not (below c p)) (outside l p hp) ∙ sym (holds_second cuts c d q e ∙ ap (λ x. x && not (below c q)) (outside l q hq))

    new_box : holds cuts c.parent p ≡ true → holds cuts c.parent q ≡ true → below c p ≡ below c q → Which cuts d → holds (cuts ++ c ∷ []) d p ≡ holds (cuts ++ c ∷ []) d q
    new_box hp hq s (old m) = holds_old cuts c d p m ∙ ih before c.parent d (parent_stood cuts c g) m (parent_uncut cuts c g) p q hp hq ∙ sym (holds_old cuts c d q m)
    new_box hp hq s (first e) = holds_first cuts c d p e ∙ ap₂ ◌&&◌ (hp ∙ sym hq) s ∙ sym (holds_first cuts c d q e)
    new_box hp hq s (second e) = holds_second cuts c d p e ∙ ap₂ (λ x y. x && not y) (hp ∙ sym hq) s ∙ sym (holds_second cuts c d q e)

pub alike : (cuts : List Cut) → Logged cuts → (b d : ℕ) → b < boxes_after cuts → d < boxes_after cuts → Uncut cuts b → (p q : Place) → holds cuts b p ≡ true → holds cuts b q ≡ true → holds cuts d p ≡ holds cuts d q
unfolding Alike
alike = by_cuts Alike (λ g b d lb ld ub p q hp hq. holds_zero d p ld ∙ sym (holds_zero d q ld)) alike_more
  where
    holds_zero : (d : ℕ) (p : Place) → d < 1 → holds [] d p ≡ true
    holds_zero d p l = let e : d ≡ 0 = omega arith in rw e (holds_root [] p)

-- ---- the children of a cut

Parts : List Cut → Type 0
Parts cuts =
    Logged cuts → (i : ℕ) → i < length cuts → (p : Place) →
    (holds cuts (2 * i + 1) p ≡ (holds cuts (cut_at cuts i).parent p && below (cut_at cuts i) p)) × (holds cuts (2 * i + 2) p ≡ (holds cuts (cut_at cuts i).parent p && not (below (cut_at cuts i) p)))

parts_more : (cuts : List Cut) (c : Cut) → Parts cuts → Parts (cuts ++ c ∷ [])
unfolding Parts
parts_more cuts c ih g i l p = elim (cases_lt i (length cuts)) [
  | inl m ↦
      let h = ih (logged_before cuts c g) i m p in
      let same : (holds cuts (cut_at cuts i).parent p ≡ holds (cuts ++ c ∷ []) (cut_at (cuts ++ c ∷ []) i).parent p) =
      sym (holds_old cuts c (cut_at cuts i).parent p (omega (arith, (logged_before cuts c g).stood i m))) ∙ ap (λ b. holds (cuts ++ c ∷ []) b p) (sym (parent_old cuts c i m)) in
      let side : below (cut_at cuts i) p ≡ below (cut_at (cuts ++ c ∷ []) i) p = ap (λ d. below d p) (sym (cut_old cuts c i m)) in
      (holds_old cuts c (2 * i + 1) p (omega arith) ∙ h.0 ∙ ap₂ ◌&&◌ same side, holds_old cuts c (2 * i + 2) p (omega arith) ∙ h.1 ∙ ap₂ (λ x y. x && not y) same side)
  | inr m ↦
      let e : i ≡ length cuts = omega (arith, length_more cuts c) in
      let same : (holds cuts c.parent p ≡ holds (cuts ++ c ∷ []) (cut_at (cuts ++ c ∷ []) i).parent p) =
      sym (holds_old cuts c c.parent p (parent_stood cuts c g)) ∙ ap (λ b. holds (cuts ++ c ∷ []) b p) (sym (parent_new cuts c i e)) in
      let side : below c p ≡ below (cut_at (cuts ++ c ∷ []) i) p = ap (λ d. below d p) (sym (cut_new cuts c i e)) in
      (holds_first cuts c (2 * i + 1) p (omega arith) ∙ ap₂ ◌&&◌ same side, holds_second cuts c (2 * i + 2) p (omega arith) ∙ ap₂ (λ x y. x && not y) same side)
]

parts : (cuts : List Cut) → Parts cuts
unfolding Parts
parts = by_cuts Parts (λ g i l p. absurd (omega arith)) parts_more

-- what a cut box has, its two children share
pub children_hold : (cuts : List Cut) → Logged cuts → (b i : ℕ) → i < length cuts → (cut_at cuts i).parent ≡ b → (p : Place) →
    (holds cuts (2 * i + 1) p ≡ (holds cuts b p && below (cut_at cuts i) p)) × (holds cuts (2 * i + 2) p ≡ (holds cuts b p && not (below (cut_at cuts i) p)))
unfolding Parts
children_hold cuts g b i l e p = let q = parts cuts g i l p in (q.0 ∙ ap (λ d. holds cuts d p && below (cut_at cuts i) p) e, q.1 ∙ ap (λ d. holds cuts d p && not (below (cut_at cuts i) p)) e)

-- a place of a cut box lies in the child on its side
module _ (cuts : List Cut) (g : Logged cuts) (b : ℕ) (c : Cut) (first second : ℕ) (s : SplitInto cuts b c first second) (p : Place) (h : holds cuts b p ≡ true) where
  pub in_first : below c p ≡ true → holds cuts first p ≡ true
  in_first t = ap (λ d. holds cuts d p) s.first_is ∙ (children_hold cuts g b s.number s.made s.of p).0 ∙ and_from _ _ h (ap (λ d. below d p) (sym s.is) ∙ t)

  pub in_second : below c p ≡ false → holds cuts second p ≡ true
  in_second f = ap (λ d. holds cuts d p) s.second_is ∙ (children_hold cuts g b s.number s.made s.of p).1 ∙ and_from _ _ h (ap not (ap (λ d. below d p) (sym s.is) ∙ f))

-- ---- a place has a smallest box

-- a box that has the place and is not cut
Found : List Cut → Type 0
Found cuts = Logged cuts → (p : Place) → (b : ℕ) × Smallest cuts p b

found_more : (cuts : List Cut) (c : Cut) → Found cuts → Found (cuts ++ c ∷ [])
unfolding Found
found_more cuts c ih g p = elim (cases_eq old.0 c.parent) [
  | inl e ↦ elim (cases_Bool (below c p)) [
    | inl t ↦ (boxes_after cuts, record { there = omega (arith, boxes_more cuts c); uncut = fresh (boxes_after cuts) (omega arith); has = holds_first cuts c (boxes_after cuts) p refl ∙ and_from _ _ (has e) t })
    | inr f ↦ (boxes_after cuts + 1, record { there = omega (arith, boxes_more cuts c); uncut = fresh (boxes_after cuts + 1) (omega arith); has = holds_second cuts c (boxes_after cuts + 1) p refl ∙ and_from _ _ (has e) (ap not f) })
  ]
  | inr n ↦ (old.0, record { there = omega (arith, boxes_more cuts c, old.1.there); uncut = uncut_more cuts c old.0 old.1.uncut n; has = holds_old cuts c old.0 p old.1.there ∙ old.1.has })
]
  where
    old : (b : ℕ) × Smallest cuts p b
    old = ih (logged_before cuts c g) p

    has : old.0 ≡ c.parent → holds cuts c.parent p ≡ true
    has e = ap (λ b. holds cuts b p) (sym e) ∙ old.1.has

    fresh : (b : ℕ) → boxes_after cuts ≤ b → Uncut (cuts ++ c ∷ []) b
    fresh b l = uncut_more cuts c b (λ i h e. omega (arith, (logged_before cuts c g).stood i h)) (λ e. omega (arith, parent_stood cuts c g))

found : (cuts : List Cut) → Found cuts
unfolding Found
found = by_cuts Found (λ g p. (0, record { there = omega arith; uncut = λ i l. absurd (omega arith); has = holds_root [] p })) found_more

pub one_smallest_each : OneSmallest
unfolding Found
one_smallest_each cuts g p = let f = found cuts g p in (f.0, f.1, λ d s. one_smallest cuts p d f.0 g s f.1)
