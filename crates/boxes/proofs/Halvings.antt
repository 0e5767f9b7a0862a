-- The steps of halving.
use Rattle.std.proofs.Common.{◌≡◌, ℕ, ◌+◌, ◌/◌, ◌<◌, ◌≤◌, Bool, true, false, not, List, [], ◌∷◌, ◌++◌, length, get_or, ℤ, pos, ◌+ℤ◌, ◌≤ℤ◌, ◌<ℤ◌, Ok, Err, Result, filter, sym, ap, ◌∙◌, subst, inl, inr, arith}
use borrow.Author.Differences.{ints}
use lib.Signed.{lt_z}
use Rattle.std.specs.List.{ContainsAt as Has}
use Rattle.std.proofs.ByRecursion.{all-has, has_get_or}
use Rattle.std.proofs.lemmas.List.{get_or-map, length-map}
use Rattle.std.proofs.lemmas.Bool.{true≢false, false≢true}
use Rattle.points.specs.declared.point.Point.{Ghosts as PointGhosts}
use Rattle.points.specs.declared.record.Record.{Ghosts as RecordGhosts}
use Rattle.points.specs.Entries.{Entry}
use Rattle.points.specs.Kinds.{position_place}
use Rattle.grouping.specs.Distance.{number}
use Rattle.boxes.specs.declared.cut.Cut.{Cut}
use Rattle.boxes.specs.declared.fault.CutFault.{CutFault}
use Rattle.boxes.specs.declared.fault.CutFault.TheVariants.{NoUncutBox, OneSided}
use Rattle.boxes.specs.declared.table.BoxTable.{BoxTable}
use Rattle.std.specs.Result.{MatchResult, is_ok}
use Rattle.boxes.specs.Faults.{Against, Refused, Accepted}
use Rattle.boxes.specs.Halving.{Spread, Halvable, Largest, Halves, Halvings, more, Rests, Stepped}
use Rattle.boxes.specs.Regions.{below, boxes_after, contents, cut_by, Uncut}
use Rattle.boxes.specs.Runs.{nothing}
use Rattle.boxes.specs.Standing.{cuts_of, entries_of}
use Rattle.boxes.specs.Table.{node_at}
use Rattle.boxes.specs.Tells.{numbers_on, Lowest, Highest}
use Rattle.boxes.specs.Widths.{width_on, WidestOf}
use Rattle.boxes.proofs.Sameness.{has_kept}
use Rattle.boxes.proofs.Sides.{accepted}
use Rattle.boxes.proofs.Tables.{stands}
use Rattle.boxes.proofs.Widths.{apart_makes}

-- ---- how wide entries are

lowest_only : (axis : ℕ) (es : List Entry) (y z : ℤ) → Lowest axis es y → Lowest axis es z → y ≡ z
lowest_only axis es y z a b =
    let up : y ≤ℤ z = all-has (λ x. y ≤ℤ x) (numbers_on axis es) z a.below b.one_of in
    let down : z ≤ℤ y = all-has (λ x. z ≤ℤ x) (numbers_on axis es) y b.below a.one_of in
    omega (arith, ints)

highest_only : (axis : ℕ) (es : List Entry) (y z : ℤ) → Highest axis es y → Highest axis es z → y ≡ z
highest_only axis es y z a b =
    let up : z ≤ℤ y = all-has (λ x. x ≤ℤ y) (numbers_on axis es) z a.above b.one_of in
    let down : y ≤ℤ z = all-has (λ x. x ≤ℤ z) (numbers_on axis es) y b.above a.one_of in
    omega (arith, ints)

-- there is one width
same_spread : (axis : ℕ) (es : List Entry) (y z : ℤ) (v w : ℕ) → Spread axis es y v → Spread axis es z w → v ≡ w
same_spread axis es y z v w s t =
    let low = lowest_only axis es y z s.lowest t.lowest in
    let high = highest_only axis es (y +ℤ pos v) (z +ℤ pos w) s.highest t.highest in
    omega (arith, ints)

-- ---- what the table says of a box

module _ {R : Type 0} {kindP : PointGhosts R} {kindR : RecordGhosts R} (t : BoxTable R kindR kindP) (axes : ℕ) (few : axes ≤ 4) (b : ℕ) (there : b < boxes_after (cuts_of t)) where
  low : ℕ → ℤ
  low axis = number (position_place (node_at t.nodes b).bounds.least) axis

  spread : (axis : ℕ) → axis < 4 → Spread axis (contents (cuts_of t) b (entries_of t)) (low axis) (width_on (node_at t.nodes b).bounds axis)
  unfolding low width_on
  spread axis l =
      let es = contents (cuts_of t) b (entries_of t) in
      let lowest = ((stands t).bounds b there).low axis l in
      let highest = ((stands t).bounds b there).high axis l in
      let high = number (position_place (node_at t.nodes b).bounds.greatest) axis in
      record {
        lowest = lowest;
        highest = subst (Highest axis es) (apart_makes (low axis) high (all-has (λ x. low axis ≤ℤ x) (numbers_on axis es) high lowest.below highest.one_of)) highest;
      }

  width_is : (axis w : ℕ) (z : ℤ) → axis < axes → Spread axis (contents (cuts_of t) b (entries_of t)) z w → w ≡ width_on (node_at t.nodes b).bounds axis
  width_is axis w z l s = same_spread axis (contents (cuts_of t) b (entries_of t)) z (low axis) w (width_on (node_at t.nodes b).bounds axis) s (spread axis (omega arith))

  -- the box can be halved if it is uncut, has many entries, and is wide on the axis on which it is widest
  module _ (axis : ℕ) (w : WidestOf (node_at t.nodes b).bounds axes axis) where
    pub halvable : Uncut (cuts_of t) b → 16 < length (contents (cuts_of t) b (entries_of t)) → 0 < width_on (node_at t.nodes b).bounds axis → Halvable axes (entries_of t) (cuts_of t) b
    halvable u many some = record { there = there; uncut = u; many = many; wide = (axis, width_on (node_at t.nodes b).bounds axis, low axis, w.within, some, spread axis (omega (arith, w.within))) }

    pub halvable_wide : Halvable axes (entries_of t) (cuts_of t) b → 0 < width_on (node_at t.nodes b).bounds axis
    halvable_wide h = let s = h.wide in omega (arith, s.4, width_is s.0 s.1 s.2 s.3 s.5, w.most s.0 s.3)

    pub halves : (value : ℤ) → Largest axes (entries_of t) (cuts_of t) b → (0 < width_on (node_at t.nodes b).bounds axis → value ≡ number (position_place (node_at t.nodes b).bounds.least) axis +ℤ pos (width_on (node_at t.nodes b).bounds axis / 2 + 1)) →
        Halves axes (entries_of t) (cuts_of t) (cut_by b axis value)
    unfolding low
    halves value g middle =
        record {
          largest = g;
          low = low axis;
          width = width_on (node_at t.nodes b).bounds axis;
          widest = record {
            within = w.within;
            spread = spread axis (omega (arith, w.within));
            most = λ k v z l s. omega (arith, width_is k v z l s, w.most k l);
            first = λ k v z l s. omega (arith, width_is k v z (omega (arith, w.within)) s, w.first k l);
          };
          middle = middle (halvable_wide g.halvable);
        }

-- ---- a halving is accepted

-- the entry that has a number
has_unmapped : (axis : ℕ) (es : List Entry) (z : ℤ) → Has (numbers_on axis es) z → (e : Entry) × Has es e × (number e.place axis ≡ z)
has_unmapped axis es z (k, l, is) =
    let n = length-map es (λ e. number e.place axis) in
    let l' : k < length es = omega arith in
    (get_or es k nothing, has_get_or es k nothing l', sym (get_or-map (λ e. number e.place axis) es k nothing (pos 0) l') ∙ is (pos 0))

not_empty : (t : Entry → Bool) (es : List Entry) (e : Entry) → Has es e → t e ≡ true → filter t es ≡ [] → ⊥
not_empty t es e h p none = let k = has_kept t es e h p in omega (arith, k.1, ap length none)

lies_below : (x low value : ℤ) (w : ℕ) → x ≡ low → value ≡ low +ℤ pos (w / 2 + 1) → lt_z x value ≡ true
lies_below x low value w e m = let l : x <ℤ value = omega (arith, ints) in grind (arith, ints)

lies_above : (x low value : ℤ) (w : ℕ) → 0 < w → x ≡ low +ℤ pos w → value ≡ low +ℤ pos (w / 2 + 1) → not (lt_z x value) ≡ true
lies_above x low value w some e m = let l : value ≤ℤ x = omega (arith, ints) in let f : lt_z x value ≡ false = grind (arith, ints) in ap not f

pub halves_accepted : (axes : ℕ) (es : List Entry) (cuts : List Cut) (c : Cut) → Halves axes es cuts c → length cuts < 127 → Accepted axes es cuts c
halves_accepted axes es cuts c h room = accepted axes es cuts c free (λ l. omega (arith, h.widest.within)) (λ e. omega arith) sides
  where
    some : 0 < h.width
    some = let s = h.largest.halvable.wide in omega (arith, s.4, h.widest.most s.0 s.1 s.2 s.3 s.5)

    free : Against axes es cuts c NoUncutBox → ⊥
    free (inl l) = omega (arith, h.largest.halvable.there)
    free (inr n) = n h.largest.halvable.uncut

    sides : Against axes es cuts c OneSided → ⊥
    sides (inl e) =
        let one = has_unmapped c.axis (contents cuts c.parent es) h.low h.widest.spread.lowest.one_of in
        not_empty (λ x. below c x.place) (contents cuts c.parent es) one.0 one.1 (lies_below _ h.low c.value h.width one.2 h.middle) e
    sides (inr e) =
        let one = has_unmapped c.axis (contents cuts c.parent es) (h.low +ℤ pos h.width) h.widest.spread.highest.one_of in
        not_empty (λ x. not (below c x.place)) (contents cuts c.parent es) one.0 one.1 (lies_above _ h.low c.value h.width some one.2 h.middle) e

-- so a halving that is tried is done
pub stepped : (P Q : Type 0) (axes : ℕ) (es : List Entry) (cuts made : List Cut) (c : Cut) (r : Result (Unit {0}) CutFault) → Halves axes es cuts c → length cuts < 127 →
    MatchResult r (λ _. P) (λ f. Refused axes es cuts c f) → MatchResult r (λ _. made ≡ cuts ++ c ∷ []) (λ _. Q) → Stepped axes es cuts (is_ok r) made
stepped P Q axes es cuts made c (Ok x) h room judged noted = (room, (c, h, noted))
stepped P Q axes es cuts made c (Err f) h room judged noted = absurd (halves_accepted axes es cuts c h room f judged.reason)

-- ---- one halving more, or none

module _ (axes : ℕ) (es : List Entry) (start cuts made : List Cut) (n : ℕ) (so : Halvings axes es start n cuts) where
  pub one_more : (r : Bool) → Stepped axes es cuts r made → r ≡ true → Halvings axes es start (n + 1) made
  one_more true s e = subst (Halvings axes es start (n + 1)) (sym s.1.2) (more n cuts s.1.0 so s.0 s.1.1)
  one_more false s e = absurd (false≢true e)

  pub no_more : (r : Bool) → Stepped axes es cuts r made → r ≡ false → Halvings axes es start n made × Rests axes es made
  no_more true s e = absurd (true≢false e)
  no_more false s e = (subst (Halvings axes es start n) (sym s.1) so, subst (Rests axes es) (sym s.1) s.0)
