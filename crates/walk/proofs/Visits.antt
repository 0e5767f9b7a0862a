-- What the fields of a visit say of its box and its candidates.
use Rattle.std.proofs.Common.{◌≡◌, ℕ, zero, suc, ◌<◌, List, [], ◌∷◌, ◌⊎◌, inl, inr, arith}
use Rattle.std.specs.List.{ContainsAt as Has}
use Rattle.std.proofs.Math.Logic.{∥∥₁_elim, ∥∥₁_prop}
use Rattle.std.proofs.Props.{props}
use Rattle.std.proofs.lemmas.Bool.{cases_eq}
use Rattle.points.specs.declared.point.Point.{Ghosts as PointGhosts}
use Rattle.points.specs.declared.record.Record.{Ghosts as RecordGhosts}
use Rattle.points.specs.Entries.{Entry}
use Rattle.grouping.specs.Choice.{choose}
use Rattle.grouping.specs.Distance.{Place}
use Rattle.boxes.specs.Regions.{boxes_after}
use Rattle.boxes.specs.Standing.{Stands}
use Rattle.boxes.proofs.Tables.{box_there, stands}
use Rattle.walk.specs.declared.visit.Visit.{Visit}
use Rattle.walk.specs.Growth.{Covered}
use Rattle.walk.specs.Visits.{box_of, cuts_in, entries_in, centers_in, candidates_in}

-- ---- what covers has a proof that can be named, since it can be decided

has_or : (ks : List ℕ) (k : ℕ) → Has ks k ⊎ (Has ks k → ⊥)
has_or [] k = inr (λ h. omega (arith, h.1))
has_or (x ∷ ks) k = elim (cases_eq x k) [
  | inl e ↦ inl (0, omega arith, λ d. e)
  | inr n ↦ elim (has_or ks k) [ inl (i, l, e) ↦ inl (suc i, omega (arith, l), e) | inr m ↦ inr (later n m) ]
]
  where
    later : (x ≡ k → ⊥) → (Has ks k → ⊥) → Has (x ∷ ks) k → ⊥
    later n m (zero, l, e) = n (e k)
    later n m (suc i, l, e) = m (i, omega arith, e)

has_known : (ks : List ℕ) (k : ℕ) → ∥ Has ks k ∥₁ → Has ks k
has_known ks k t = elim (has_or ks k) [ inl h ↦ h | inr n ↦ absurd (∥∥₁_elim t (Prim.hlevel props) n) ]

covered_known : (cs : List Place) (ks : List ℕ) (es : List Entry) → ∥ Covered cs ks es ∥₁ → Covered cs ks es
covered_known cs ks [] t = tt
covered_known cs ks (e ∷ es) t = (has_known ks (choose cs e.place) (∥∥₁_elim t ∥∥₁_prop (λ a. ∣ a.0 ∣₁)), covered_known cs ks es (∥∥₁_elim t ∥∥₁_prop (λ a. ∣ a.1 ∣₁)))

-- ---- a visit

module _ {R : Type 0} {kindP : PointGhosts R} {kindR : RecordGhosts R} (v : Visit R kindR kindP) where
  pub there : box_of v < boxes_after (cuts_in v)
  there = box_there v.at.table.now v.at.number v.at.there

  pub table_stands : Stands v.at.table.now
  table_stands = stands v.at.table.now

  pub covered_is : Covered (centers_in v) (candidates_in v) (entries_in v)
  covered_is = covered_known (centers_in v) (candidates_in v) (entries_in v) v.covered
