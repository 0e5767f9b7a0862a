-- Which bytes the lines of a file have in them.
use Rattle.std.proofs.Common.{◌≡◌, ℕ, zero, suc, ◌<◌, ◌≤◌, List, [], ◌∷◌, ◌++◌, get_or, ℤ, pos, negsuc, decimal, sym, arith, rules}
use Rattle.std.specs.Int.{IsInRange}
use Rattle.std.specs.Fmt.{signed_decimal}
use Rattle.std.specs.List.{AllByRecursion}
use Rattle.std.proofs.lemmas.Fmt.{digits_decimal}
use Rattle.std.proofs.ByRecursion.{All-get_or, All-from_get_or, All-map}
use Rattle.std.proofs.lemmas.Str.Parse.{not_in_digits}
use Rattle.value.specs.Spelling.{Spells}
use Rattle.value.proofs.Shapes.{own}
use Rattle.reader.specs.Fields.{Lacks, commas}
use Rattle.reader.proofs.Cuts.{lacks_tail}
use Rattle.rows.specs.declared.kind.FileKind.{FileKind}
use Rattle.rows.specs.declared.name.Name.{Name}
use Rattle.rows.specs.declared.name.Name.TheVariants.{Lag, Torque, Speed, Temp, Gap, Length, Hold}
use Rattle.rows.specs.Columns.{width, name_at, column_at}
use Rattle.rows.specs.Lines.{EachOnce, Fits, cells_in, names_in}
use Rattle.rows.specs.Names.{text_of}
use Rattle.rows.proofs.Exact.{row_spelled}

-- two texts with another byte between them
joined_lack : (b x : ℕ) (p q : List ℕ) → Lacks b p → (x ≡ b → ⊥) → Lacks b q → Lacks b (p ++ x ∷ q)
joined_lack b x [] q hp other hq zero l e = other e
joined_lack b x [] q hp other hq (suc k) l e = hq k (omega arith) e
joined_lack b x (y ∷ p) q hp other hq zero l e = hp 0 (omega arith) e
joined_lack b x (y ∷ p) q hp other hq (suc k) l e = joined_lack b x p q (lacks_tail b y p hp) other hq k (omega arith) e

-- a byte that is no comma, and in none of the fields, is not in their line
pub commas_lack : (b : ℕ) (fs : List (List ℕ)) → AllByRecursion (Lacks b) fs → (b ≡ 44 → ⊥) → Lacks b (commas fs)
commas_lack b [] h other k l e = omega arith
commas_lack b (f ∷ []) h other k l e = h.0 k l e
commas_lack b (f ∷ g ∷ fs) h other k l e = joined_lack b 44 f (commas (g ∷ fs)) h.0 (λ same. other (sym same)) (commas_lack b (g ∷ fs) h.1 other) k l e

-- a value is spelled by digits and a minus
spelled_lacks : (b : ℕ) (z : ℤ) → (b ≡ 45 → ⊥) → (IsInRange 48 57 b → ⊥) → Spells (signed_decimal z) z → Lacks b (signed_decimal z)
spelled_lacks b (pos n) minus digit h k l e = let small = h.small in not_in_digits own (decimal n) b (digits_decimal own n (omega arith)) digit k l e
spelled_lacks b (negsuc n) minus digit h zero l e = minus (sym e)
spelled_lacks b (negsuc n) minus digit h (suc k) l e = let small = h.small in not_in_digits own (decimal (suc n)) b (digits_decimal own (suc n) (omega arith)) digit k (omega arith) e

pub cells_plain : (kind : FileKind) (order : List ℕ) → EachOnce (width kind) order → (row : List ℤ) → Fits kind row → (b : ℕ) → (b ≡ 45 → ⊥) → (IsInRange 48 57 b → ⊥) → AllByRecursion (Lacks b) (cells_in order row)
cells_plain kind order each row fit b minus digit =
    All-map (Lacks b) (λ c. signed_decimal (get_or row c (pos 0))) order
    (All-from_get_or (λ c. Lacks b (signed_decimal (get_or row c (pos 0)))) order 0
    (λ i l. let c = get_or order i 0 in spelled_lacks b (get_or row c (pos 0)) minus digit (row_spelled kind row fit c (each.known i (omega (arith, each.long))))))

-- a name is spelled by small letters
letters : (n : Name) → AllByRecursion (λ x. 97 ≤ x) (text_of n)
letters Lag = search rules
letters Torque = search rules
letters Speed = search rules
letters Temp = search rules
letters Gap = search rules
letters Length = search rules
letters Hold = search rules

pub names_plain : (kind : FileKind) (order : List ℕ) (b : ℕ) → b < 97 → AllByRecursion (Lacks b) (names_in kind order)
names_plain kind order b small =
    All-map (Lacks b) (name_at kind) order
    (All-from_get_or (λ c. Lacks b (name_at kind c)) order 0 (λ i _ k l e. let name = (column_at kind (get_or order i 0)).name in omega (arith, All-get_or (λ x. 97 ≤ x) (text_of name) k 0 l (letters name))))
