-- Where a list of bytes is cut at a byte: at the first one that is found, and in one way only.
use Rattle.std.proofs.Common.{◌≡◌, ℕ, suc, List, [], ◌∷◌, ◌++◌, length, refl, subst, arith}
use Rattle.std.proofs.lemmas.List.{get_or_at, length-append}
use Rattle.reader.specs.Fields.{Lacks}

-- what holds of all bytes holds of all but the first
pub lacks_tail : (b x : ℕ) (p : List ℕ) → Lacks b (x ∷ p) → Lacks b p
lacks_tail b x p h k l e = h (suc k) (omega arith) e

-- bytes of which none is b are not cut at b
pub no_cut : (b : ℕ) (p q xs : List ℕ) → Lacks b q → q ≡ p ++ b ∷ xs → ⊥
no_cut b p q xs h e = subst (Lacks b) e h (length p) (omega (arith, length-append p (b ∷ xs))) (get_or_at p b xs 0 (length p) refl)

-- bytes are cut at their first b in one way
pub cut_unique : (b : ℕ) (p q xs ys : List ℕ) → Lacks b p → Lacks b q → p ++ b ∷ xs ≡ q ++ b ∷ ys → (p ≡ q) × (xs ≡ ys)
cut_unique b [] [] xs ys hp hq e = let t : xs ≡ ys = cc in (refl, t)
cut_unique b [] (y ∷ q) xs ys hp hq e = let t : y ≡ b = cc in absurd (hq 0 (omega arith) t)
cut_unique b (x ∷ p) [] xs ys hp hq e = let t : x ≡ b = cc in absurd (hp 0 (omega arith) t)
cut_unique b (x ∷ p) (y ∷ q) xs ys hp hq e =
    let s : x ≡ y = cc in
    let t : p ++ b ∷ xs ≡ q ++ b ∷ ys = cc in
    let r = cut_unique b p q xs ys (lacks_tail b x p hp) (lacks_tail b y q hq) t in
    (λ i. s i ∷ r.0 i, r.1)
