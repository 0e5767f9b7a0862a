-- Centers and candidates as lists.
use Rattle.std.proofs.Common.{◌≡◌, ℕ, ◌+◌, ◌<◌, ◌≤◌, min, Bool, true, false, cond, List, [], ◌∷◌, ◌++◌, length, get_or, take, set, filter, sym, ap, ◌∙◌, arith}
use Rattle.std.specs.List.{AllByRecursion}
use Rattle.std.proofs.lemmas.List.Elements.{filter_more}
use Rattle.std.proofs.ByRecursion.{All-get_or, All-from_get_or, All-map}
use Rattle.std.proofs.lemmas.List.{length-take, length-take-le, length-map, get_or-take, get_or_default, same_lists, take_more_set, append-nil}
use Rattle.numbers.proofs.Sums.{length_mapped, slice_index_mapped}
use Rattle.points.specs.declared.position.Position.{Position}
use Rattle.points.specs.Kinds.{position_place}
use Rattle.grouping.specs.Groups.{place_of}
use Rattle.pruning.specs.declared.candidates.Candidates.{Candidates}
use Rattle.pruning.specs.declared.centers.Centers.{Centers}
use Rattle.pruning.specs.Candidates.{listed, among}
use Rattle.pruning.specs.Centers.{positions_of, centers_of}
use Rattle.pruning.specs.Positions.{position_at}
use Rattle.pruning.specs.Pruning.{numbers_of, Fit}

-- ---- centers

length_positions : (c : Centers) → length (positions_of c) ≡ c.count
length_positions c = length-take-le c.count c.positions (omega (arith, c.long, c.few))

pub length_centers : (axes : ℕ) (c : Centers) → length (centers_of axes c) ≡ c.count
length_centers axes c = length-map (positions_of c) (place_of axes) ∙ length_positions c

-- a place has at most four numbers
pub length_place : (axes : ℕ) (p : Position) → length (place_of axes p) ≡ min axes 4
length_place axes p = length-take axes (position_place p)

-- the places of the centers have as many numbers as that of any position
pub centers_sized : (axes : ℕ) (c : Centers) (p : Position) → AllByRecursion (λ place. length place ≡ length (place_of axes p)) (centers_of axes c)
centers_sized axes c p =
    All-map (λ place. length place ≡ length (place_of axes p)) (place_of axes) (positions_of c)
    (All-from_get_or (λ q. length (place_of axes q) ≡ length (place_of axes p)) (positions_of c) (position_at [] 0) (λ i l. length_place axes (position_at (positions_of c) i) ∙ sym (length_place axes p)))

-- ---- candidates

pub length_listed : (c : Candidates) → length (listed c) ≡ c.count
length_listed c = length-take-le c.count c.numbers (omega (arith, c.long, c.few))

-- each is the number of a center
pub listed_known : (c : Candidates) (i : ℕ) → i < length (listed c) → get_or (listed c) i 0 < c.centers.now.count
listed_known c i l = let h : i < c.count = omega (arith, length_listed c) in rw (get_or-take c.count c.numbers i 0 h) (c.known i h)

-- candidates are fit
pub candidates_fit : (axes : ℕ) (c : Candidates) → Fit (among axes c) (listed c)
candidates_fit axes c = record {
  some = omega (arith, length_listed c, c.some);
  known = All-from_get_or (λ k. k < length (among axes c)) (listed c) 0 (λ i l. omega (arith, length_centers axes c.centers.now, listed_known c i l));
  rises = λ i j h l.
      let jl : j < c.count = omega (arith, length_listed c) in
      let il : i < c.count = omega arith in
      rw (get_or-take c.count c.numbers i 0 il, get_or-take c.count c.numbers j 0 jl) (c.rises i j h jl);
}

-- what is fit can be kept as candidates
module _ (axes : ℕ) (centers : Centers) (numbers : List ℕ) (count : ℕ) (long : length numbers ≡ 32) (few : count ≤ 32) (fit : Fit (centers_of axes centers) (take count numbers)) where
  length_kept : length (take count numbers) ≡ count
  length_kept = length-take-le count numbers (omega arith)

  pub fit_some : 0 < count
  fit_some = omega (arith, length_kept, fit.some)

  pub fit_known : (i : ℕ) → i < count → get_or numbers i 0 < centers.count
  fit_known i h =
      let k = All-get_or (λ k. k < length (centers_of axes centers)) (take count numbers) i 0 (omega (arith, length_kept)) fit.known in
      omega (arith, length_centers axes centers, get_or-take count numbers i 0 h)

  pub fit_rises : (i j : ℕ) → i < j → j < count → get_or numbers i 0 < get_or numbers j 0
  fit_rises i j h l =
      let il : i < count = omega arith in
      omega (arith, fit.rises i j h (omega (arith, length_kept)), get_or-take count numbers i 0 il, get_or-take count numbers j 0 l)

-- of an array of its own indices the front is the numbers of all centers
pub numbered : (axes : ℕ) (centers : Centers) (numbers : List ℕ) → length numbers ≡ 32 → ((i : ℕ) → i < 32 → get_or numbers i 0 ≡ i) → take centers.count numbers ≡ numbers_of (centers_of axes centers)
numbered axes centers numbers long same =
    let short = length-take-le centers.count numbers (omega (arith, centers.few)) in
    let many = length_centers axes centers in
    same_lists _ _ (omega (arith, length_mapped (λ i c. i) 0 (centers_of axes centers)))
    (λ i d h.
    let il : i < centers.count = omega arith in
    get_or-take centers.count numbers i d il
    ∙ get_or_default numbers i d 0 (omega (arith, centers.few))
    ∙ same i (omega (arith, centers.few))
    ∙ sym (slice_index_mapped (λ j c. j) [] d i (centers_of axes centers) (omega arith)))

-- ---- a loop that copies what passes a test to the front of another array

module _ (test : ℕ → Bool) (from to : List ℕ) (i n x : ℕ) (il : i < length from) (at : x ≡ get_or from i 0) (so : take n to ≡ filter test (take i from)) where
  -- what the test adds
  adds : (b : Bool) → test x ≡ b → filter test (take i from) ++ cond b (x ∷ []) [] ≡ filter test (take (i + 1) from)
  adds b e = ap (λ t. filter test (take i from) ++ cond t (x ∷ []) []) (sym e) ∙ ap (λ y. filter test (take i from) ++ cond (test y) (y ∷ []) []) at ∙ sym (filter_more test from i 0 il)

  pub copy_yes : n < length to → test x ≡ true → take (n + 1) (set to n x) ≡ filter test (take (i + 1) from)
  copy_yes nl e = take_more_set to n x nl ∙ ap (λ l. l ++ x ∷ []) so ∙ adds true e

  pub copy_no : test x ≡ false → take n to ≡ filter test (take (i + 1) from)
  copy_no e = so ∙ sym (append-nil (filter test (take i from))) ∙ adds false e
