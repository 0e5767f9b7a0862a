-- Sums over lists.
use Rattle.std.proofs.Common.{◌≡◌, ℕ, zero, suc, ◌<◌, cond, eqb, List, [], ◌∷◌, ◌++◌, length, get_or, replicate, ℤ, pos, ◌+ℤ◌, ◌-ℤ◌, ◌*ℤ◌, ◌≤ℤ◌, sum_by, sym, refl, ap, ap₂, arith}
use borrow.Author.Differences.{up, down}
use lib.Dec.{eqb-zero-suc, eqb-suc-zero, eqb-suc-suc}
use lib.IntN.{suc_ℤ-*ℤ, zero-*ℤ, +ℤ_idl}
use Rattle.std.specs.List.{AllByRecursion}
use Rattle.std.specs.List.Sorted.{IsPermutation}
use Rattle.std.proofs.lemmas.List.Sums.{sum_by-cons}
use Rattle.std.proofs.lemmas.List.Sorted.{sum_by-IsPermutation}
use Rattle.numbers.specs.Sums.{summed, summed_from, mapped_from}
use Rattle.numbers.proofs.Ring.{lin}

-- ---- over a list

pub summed_append : {X : Type 0} (f : X → ℤ) (xs ys : List X) → summed f (xs ++ ys) ≡ summed f xs +ℤ summed f ys
summed_append f [] ys = sym (+ℤ_idl (summed f ys))
summed_append f (x ∷ xs) ys = omega (arith, lin, summed_append f xs ys)

pub summed_replicate : {X : Type 0} (f : X → ℤ) (n : ℕ) (x : X) → summed f (replicate n x) ≡ pos n *ℤ f x
summed_replicate f zero x = sym (zero-*ℤ (f x))
summed_replicate f (suc n) x = omega (arith, lin, summed_replicate f n x, suc_ℤ-*ℤ (pos n) (f x))

-- as two sums of natural numbers
parted : {X : Type 0} (f : X → ℤ) (xs : List X) → summed f xs ≡ pos (sum_by (λ x. up (f x)) xs) -ℤ pos (sum_by (λ x. down (f x)) xs)
parted f [] = refl
parted f (x ∷ xs) = omega (arith, lin, parted f xs, sum_by-cons (λ y. up (f y)) x xs, sum_by-cons (λ y. down (f y)) x xs)

pub summed_shuffled : {X : Type 0} (f : X → ℤ) (xs ys : List X) → IsPermutation xs ys → summed f xs ≡ summed f ys
summed_shuffled f xs ys h =
    omega (arith, lin, parted f xs, parted f ys, sum_by-IsPermutation (λ y. up (f y)) xs ys h, sum_by-IsPermutation (λ y. down (f y)) xs ys h)

-- ---- over a list with numbers

pub from_zero : {X : Type 0} (k : ℕ) (xs : List X) → summed_from (λ j x. pos 0) k xs ≡ pos 0
from_zero k [] = refl
from_zero k (x ∷ xs) = omega (arith, lin, from_zero (suc k) xs)

pub from_same : {X : Type 0} (f g : ℕ → X → ℤ) → ((k : ℕ) (x : X) → f k x ≡ g k x) → (k : ℕ) (xs : List X) → summed_from f k xs ≡ summed_from g k xs
from_same f g h k [] = refl
from_same f g h k (x ∷ xs) = omega (arith, lin, h k x, from_same f g h (suc k) xs)

pub from_next : {X : Type 0} (f : ℕ → X → ℤ) (k : ℕ) (xs : List X) → summed_from f (suc k) xs ≡ summed_from (λ j x. f (suc j) x) k xs
from_next f k [] = refl
from_next f k (x ∷ xs) = omega (arith, lin, from_next f (suc k) xs)

-- of all elements, that with the number j
pub from_pick : {X : Type 0} (f : X → ℤ) (d : X) (j : ℕ) (xs : List X) → j < length xs → summed_from (λ k x. cond (eqb j k) (f x) (pos 0)) 0 xs ≡ f (get_or xs j d)
from_pick f d j [] h = absurd (omega arith)
from_pick f d zero (x ∷ xs) h =
    let e = from_next (λ k x. cond (eqb 0 k) (f x) (pos 0)) 0 xs in
    let g = from_same (λ k x. cond (eqb 0 (suc k)) (f x) (pos 0)) (λ k x. pos 0) (λ k x. rw (eqb-zero-suc k)) 0 xs in
    omega (arith, lin, from_zero 0 xs)
from_pick f d (suc j) (x ∷ xs) h =
    let e = from_next (λ k x. cond (eqb (suc j) k) (f x) (pos 0)) 0 xs in
    let g = from_same (λ k x. cond (eqb (suc j) (suc k)) (f x) (pos 0)) (λ k x. cond (eqb j k) (f x) (pos 0)) (λ k x. rw (eqb-suc-suc j k)) 0 xs in
    let z : cond (eqb (suc j) 0) (f x) (pos 0) ≡ pos 0 = rw (eqb-suc-zero j) in
    omega (arith, lin, from_pick f d j xs (omega arith))

-- the least at each number is the least of all
pub from_least : (f : ℕ → ℤ → ℤ) (m : ℕ → ℤ) → ((k : ℕ) (y : ℤ) → f k (m k) ≤ℤ f k y) → (k : ℕ) (xs ys : List ℤ) → length xs ≡ length ys →
    summed_from f k (mapped_from (λ j x. m j) k xs) ≤ℤ summed_from f k ys
from_least f m h k [] [] e = omega (arith, lin)
from_least f m h k [] (y ∷ ys) e = absurd (omega arith)
from_least f m h k (x ∷ xs) [] e = absurd (omega arith)
from_least f m h k (x ∷ xs) (y ∷ ys) e = omega (arith, lin, h k y, from_least f m h (suc k) xs ys (omega arith))

-- ---- lists made with numbers

pub length_mapped : {X Y : Type 0} (f : ℕ → X → Y) (k : ℕ) (xs : List X) → length (mapped_from f k xs) ≡ length xs
length_mapped f k [] = refl
length_mapped f k (x ∷ xs) = ap suc (length_mapped f (suc k) xs)

mapped_next : {X Y : Type 0} (f : ℕ → X → Y) (k : ℕ) (xs : List X) → mapped_from f (suc k) xs ≡ mapped_from (λ j x. f (suc j) x) k xs
mapped_next f k [] = refl
mapped_next {Y = Y} f k (x ∷ xs) = ap {B = List Y} (λ r. f (suc k) x ∷ r) (mapped_next f (suc k) xs)

pub slice_index_mapped : {X Y : Type 0} (f : ℕ → X → Y) (d : X) (e : Y) (i : ℕ) (xs : List X) → i < length xs → get_or (mapped_from f 0 xs) i e ≡ f i (get_or xs i d)
slice_index_mapped f d e i [] h = absurd (omega arith)
slice_index_mapped f d e zero (x ∷ xs) h = refl
slice_index_mapped f d e (suc i) (x ∷ xs) h = rw (mapped_next f 0 xs) (slice_index_mapped (λ j x. f (suc j) x) d e i xs (omega arith))

pub mapped_same : {X Y : Type 0} (f g : ℕ → X → Y) → ((k : ℕ) (x : X) → f k x ≡ g k x) → (k : ℕ) (xs : List X) → mapped_from f k xs ≡ mapped_from g k xs
mapped_same f g h k [] = refl
mapped_same f g h k (x ∷ xs) = ap₂ ◌∷◌ (h k x) (mapped_same f g h (suc k) xs)

pub all_mapped : {X Y : Type 0} (P : X → Type 0) (Q : Y → Type 0) (f : ℕ → X → Y) → ((k : ℕ) (x : X) → P x → Q (f k x)) → (k : ℕ) (xs : List X) → AllByRecursion P xs → AllByRecursion Q (mapped_from f k xs)
all_mapped P Q f h k [] a = tt
all_mapped P Q f h k (x ∷ xs) a = (h k x a.0, all_mapped P Q f h (suc k) xs a.1)
