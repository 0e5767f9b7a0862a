-- What centers get of entries, part by part.
use Rattle.std.proofs.Common.{◌≡◌, ℕ, ◌+◌, ◌<◌, Bool, true, false, cond, eqb, List, [], ◌∷◌, ◌++◌, length, get_or, take, ℤ, pos, ◌+ℤ◌, ◌*ℤ◌, sym, refl, ap, ◌∙◌, subst, arith, w64}
use lib.IntN.{*ℤ-zero}
use Rattle.std.specs.List.{AllByRecursion}
use Rattle.std.specs.Int.{int_wrap}
use Rattle.std.proofs.lemmas.Int.{int_wrap-add_same}
use Rattle.numbers.proofs.Ring.{lin}
use Rattle.points.specs.Entries.{Entry}
use Rattle.grouping.specs.Choice.{choose}
use Rattle.grouping.specs.Distance.{Place}
use Rattle.grouping.specs.Totals.{total, within}
use Rattle.boxes.specs.declared.node.Tallies.{Tallies}
use Rattle.boxes.specs.declared.run.Quantity.{Quantity}
use Rattle.boxes.specs.declared.run.Quantity.TheVariants.{Weight, Sum, Squares}
use Rattle.boxes.specs.Runs.{entry_at, picked}
use Rattle.boxes.specs.Tells.{measured, TalliesOf}
use Rattle.boxes.proofs.Extremes.{picked_more}
use Rattle.boxes.proofs.Measures.{total_append}
use Rattle.walk.specs.Growth.{Credited, Grown}
use Rattle.walk.specs.Told.{told, Tells, tallies_at}

-- the tallies tell the totals of the entries
abbrev pub TallyOf : List Entry → Tallies → Type 0
TallyOf es t = (q : Quantity) → Tells q → told q t ≡ total (measured q) es

pub tally_of : (es : List Entry) (t : Tallies) → TalliesOf es t → TallyOf es t
tally_of es t h Weight l = h.weight
tally_of es t h (Sum axis) l = h.sums axis l
tally_of es t h Squares l = h.squares

pub tally_one : (e : Entry) (t : Tallies) → ((q : Quantity) → Tells q → told q t ≡ pos e.hold *ℤ measured q e.place) → TallyOf (e ∷ []) t
tally_one e t h q l = omega (arith, lin, h q l)

pub grown_append : (cs : List Place) (es fs : List Entry) (ts us vs : List Tallies) → Grown cs es ts us → Grown cs fs us vs → Grown cs (es ++ fs) ts vs
grown_append cs es fs ts us vs g h q j l k =
    let a = told q (tallies_at ts j) in
    let x = total (within cs j (measured q)) es in
    let y = total (within cs j (measured q)) fs in
    h q j l k ∙ int_wrap-add_same w64 (told q (tallies_at us j)) (a +ℤ x) y (g q j l k) ∙ ap (int_wrap w64) (omega (arith, lin, total_append (within cs j (measured q)) es fs))

-- entries that all belong to center k
within_whole : (cs : List Place) (k j : ℕ) (f : Place → ℤ) (es : List Entry) → AllByRecursion (λ e. k ≡ choose cs e.place) es → total (within cs j f) es ≡ cond (eqb k j) (total f es) (pos 0)
within_whole cs k j f [] a = nothing (eqb k j)
  where
    nothing : (b : Bool) → pos 0 ≡ cond b (pos 0) (pos 0)
    nothing true = refl
    nothing false = refl
within_whole cs k j f (e ∷ es) a = rw (sym a.0, within_whole cs k j f es a.1) (one (eqb k j) (pos e.hold) (f e.place) (total f es))
  where
    one : (b : Bool) (h x t : ℤ) → h *ℤ cond b x (pos 0) +ℤ cond b t (pos 0) ≡ cond b (h *ℤ x +ℤ t) (pos 0)
    one true h x t = refl
    one false h x t = omega (arith, lin, *ℤ-zero h)

pub grown_whole : (cs : List Place) (k : ℕ) (more : Tallies) (es : List Entry) (ts us : List Tallies) → Credited k more ts us → AllByRecursion (λ e. k ≡ choose cs e.place) es → TallyOf es more → Grown cs es ts us
grown_whole cs k more es ts us c a t q j l h =
    c q j l h ∙ ap (λ z. int_wrap w64 (told q (tallies_at ts j) +ℤ z)) (ap (λ z. cond (eqb k j) z (pos 0)) (t q l) ∙ sym (within_whole cs k j (measured q) es a))

-- entries with the same totals
pub grown_same : (cs : List Place) (es fs : List Entry) (ts us : List Tallies) → ((f : Place → ℤ) → total f es ≡ total f fs) → Grown cs fs ts us → Grown cs es ts us
grown_same cs es fs ts us s g q j l h = g q j l h ∙ ap (λ z. int_wrap w64 (told q (tallies_at ts j) +ℤ z)) (sym (s (within cs j (measured q))))

-- ---- the records of a run, one after the other

pub run_turn : (cs : List Place) (es : List Entry) (run : List ℕ) (i : ℕ) (ts us vs : List Tallies) (k : ℕ) (more : Tallies) (e : Entry) → i < length run → entry_at es (get_or run i 0) ≡ e →
    Grown cs (picked es (take i run)) ts us → k ≡ choose cs e.place → Credited k more us vs → TallyOf (e ∷ []) more → Grown cs (picked es (take (i + 1) run)) ts vs
run_turn cs es run i ts us vs k more e l is so chosen c t =
    let next : picked es (take (i + 1) run) ≡ picked es (take i run) ++ e ∷ [] = picked_more es run i l ∙ ap (λ x. picked es (take i run) ++ x ∷ []) is in
    subst (λ fs. Grown cs fs ts vs) (sym next) (grown_append cs (picked es (take i run)) (e ∷ []) ts us vs so (grown_whole cs k more (e ∷ []) us vs c (chosen, tt) t))
