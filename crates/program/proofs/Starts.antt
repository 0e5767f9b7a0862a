-- The centers that the groups start from.
use Rattle.std.proofs.Common.{◌≡◌, ℕ, ◌+◌, ◌-◌, ◌<◌, ◌≤◌, List, [], ◌∷◌, ◌++◌, map, length, get_or, take, drop, set, ℤ, sym, ap, ◌∙◌, subst, arith}
use native.Mathlib.Nat.{sub-zero}
use borrow.Rule.Slice.PartMut.{post_of}
use Rattle.std.proofs.lemmas.List.{length-append, length-drop, length-take-le, map_push, take_at, take_more, take_more_set}
use Rattle.points.specs.Entries.{Entry}
use Rattle.points.specs.Kinds.{position_place}
use Rattle.files.specs.Rows.{padded}
use Rattle.grouping.specs.declared.group.Group.{Group}
use Rattle.grouping.specs.Distance.{Place}
use Rattle.grouping.specs.Groups.{Tallied, place_of, places}
use Rattle.grouping.specs.Moving.{settled_centers}
use Rattle.program.specs.Answers.{start_at}

-- one center more
pub one_start : {C : Type 0} (fields : C → List ℤ) (rows : List C) (groups : List Group) (k : ℕ) (row : C) (group : Group) (axes : ℕ) → k < length rows → k < length groups → row ≡ get_or rows k row → position_place group.center ≡ padded (fields row) → places axes (take k groups) ≡ map (start_at axes fields) (take k rows) → places axes (take (k + 1) (set groups k group)) ≡ map (start_at axes fields) (take (k + 1) rows)
one_start fields rows groups k row group axes l m is at h =
    ap (places axes) (take_more_set groups k group m) ∙ map_push (λ g. place_of axes g.center) (take k groups) group
    ∙ (λ i. h i ++ take axes (at i) ∷ [])
    ∙ sym (ap (map (start_at axes fields)) (take_more rows k row l ∙ ap (λ x. take k rows ++ x ∷ []) (sym is)) ∙ map_push (start_at axes fields) (take k rows) row)

-- the groups in front, where the table's first n were written
module _ (old new : List Group) (n : ℕ) (fits : n ≤ length old) (kept : length new ≡ length (take (n - 0) old)) where
  written : length new ≡ n
  written = kept ∙ ap (λ k. length (take k old)) (sub-zero n) ∙ length-take-le n old fits

  pub in_front : take n (new ++ post_of 0 (n - 0) old) ≡ new
  in_front = take_at new (post_of 0 (n - 0) old) n written

  pub as_long : length (new ++ post_of 0 (n - 0) old) ≡ length old
  as_long = omega (arith, length-append new (drop (n - 0) old), length-drop (n - 0) old, written, sub-zero n)

-- the same, with other names for the entries, the places and the groups
pub same_centers : (es es' : List Entry) (starts starts' ends ends' : List Place) → es ≡ es' → starts ≡ starts' → ends ≡ ends' → ends ≡ settled_centers es 100 starts → ends' ≡ settled_centers es' 100 starts'
same_centers es es' starts starts' ends ends' p q r h = sym r ∙ h ∙ (λ i. settled_centers (p i) 100 (q i))

pub same_tallies : (es es' : List Entry) (axes : ℕ) (groups groups' : List Group) → es ≡ es' → groups ≡ groups' → Tallied es (places axes groups) groups → Tallied es' (places axes groups') groups'
same_tallies es es' axes groups groups' p q h = subst (λ x. Tallied x (places axes groups') groups') p (subst (λ x. Tallied es (places axes x) x) q h)
