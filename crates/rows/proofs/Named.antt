-- The line of names, field by field.
use Rattle.std.proofs.Common.{◌≡◌, ℕ, zero, suc, ◌+◌, ◌<◌, ◌≤◌, cond, eqb, List, [], ◌∷◌, length, get_or, take, set, None, sym, refl, ap, ◌∙◌, subst, inl, inr, arith, get_or-set_other, get_or-set_same, below_more}
use Rattle.std.proofs.lemmas.List.{ext_get_or, length-map, get_or-map, get_or-take, length-take-le}
use Rattle.std.specs.List.{ContainsAt as Has}
use Rattle.std.proofs.ByRecursion.{has_get_or}
use Rattle.std.proofs.lemmas.Bool.{cases_order}
use Rattle.rows.specs.declared.column.Column.{Column}
use Rattle.rows.specs.declared.kind.FileKind.{FileKind}
use Rattle.rows.specs.declared.kind.FileKind.TheVariants.{DriveRecords, TelegramRecords, DriveCenters, TelegramCenters}
use Rattle.rows.specs.declared.name.Name.{Name}
use Rattle.rows.specs.declared.name.Name.TheVariants.{Lag, Torque, Speed, Temp, Gap, Length, Hold}
use Rattle.rows.specs.Columns.{columns_of, width, column_at, name_at, full}
use Rattle.rows.specs.Lines.{EachOnce, names_in, NamesRead}
use Rattle.rows.specs.Names.{text_of}

-- a name by the length and the first letter of its text
named : ℕ → ℕ → Name
named n a =
    cond (eqb n 3) (cond (eqb a 108) Lag Gap)
    (cond (eqb n 4) (cond (eqb a 116) Temp Hold)
    (cond (eqb n 5) Speed
    (cond (eqb a 116) Torque Length)))

named_text : (n : Name) → named (length (text_of n)) (get_or (text_of n) 0 0) ≡ n
unfolding named
named_text Lag = refl
named_text Torque = refl
named_text Speed = refl
named_text Temp = refl
named_text Gap = refl
named_text Length = refl
named_text Hold = refl

same_name : (m n : Name) → text_of m ≡ text_of n → m ≡ n
same_name m n e = sym (named_text m) ∙ ap (λ t. named (length t) (get_or t 0 0)) e ∙ named_text n

-- the place of a name among the columns of its kind
place : Name → ℕ
place Lag = 0
place Torque = 1
place Speed = 2
place Temp = 3
place Gap = 0
place Length = 1
place Hold = 2

-- the columns have the names of the places from k on
abbrev Placed : ℕ → List Column → Type 0
Placed k [] = Unit {0}
Placed k (c ∷ cs) = (place c.name ≡ k) × Placed (suc k) cs

placed_all : (kind : FileKind) → Placed 0 (columns_of kind)
unfolding place
placed_all DriveRecords = (refl, (refl, (refl, (refl, tt))))
placed_all TelegramRecords = (refl, (refl, (refl, tt)))
placed_all DriveCenters = (refl, (refl, (refl, (refl, tt))))
placed_all TelegramCenters = (refl, (refl, tt))

placed_at : (k : ℕ) (cs : List Column) (d : Column) (i : ℕ) → Placed k cs → i < length cs → place (get_or cs i d).name ≡ k + i
placed_at k [] d i h l = absurd (omega arith)
placed_at k (c ∷ cs) d zero h l = omega (arith, h.0)
placed_at k (c ∷ cs) d (suc i) h l = omega (arith, placed_at (suc k) cs d i h.1 (omega arith))

place_is : (kind : FileKind) (c : ℕ) → c < width kind → place (column_at kind c).name ≡ c
place_is kind c l = omega (arith, placed_at 0 (columns_of kind) (full Gap) c (placed_all kind) l)

pub few : (kind : FileKind) → (0 < width kind) × (width kind ≤ 4)
few DriveRecords = (omega arith, omega arith)
few TelegramRecords = (omega arith, omega arith)
few DriveCenters = (omega arith, omega arith)
few TelegramCenters = (omega arith, omega arith)

-- no two columns of a kind have one name
same_column : (kind : FileKind) (c d : ℕ) → c < width kind → d < width kind → name_at kind c ≡ name_at kind d → c ≡ d
same_column kind c d l m e = sym (place_is kind c l) ∙ ap place (same_name _ _ e) ∙ place_is kind d m

-- the first k fields are names of columns, none of them twice
pub record NamedSofar (kind : FileKind) (fields : List (List ℕ)) (k : ℕ) (at : List ℕ) : Type 0 where
  pub known : (i : ℕ) → i < k → get_or at i 0 < width kind
  pub names : (i : ℕ) → i < k → get_or fields i [] ≡ name_at kind (get_or at i 0)
  pub once : (i j : ℕ) → i < j → j < k → get_or at i 0 ≡ get_or at j 0 → ⊥

-- the columns before k stay where the k-th is written
before : (at : List ℕ) (k c i : ℕ) → i < k → get_or (set at k c) i 0 ≡ get_or at i 0
before at k c i l = get_or-set_other at k i c 0 (λ e. omega arith)

here : (at : List ℕ) (k c : ℕ) → k < length at → get_or (set at k c) k 0 ≡ c
here at k c l = get_or-set_same at k c 0 l

pub one_named : (kind : FileKind) (fields : List (List ℕ)) (k : ℕ) (at : List ℕ) (c : ℕ) → NamedSofar kind fields k at → k < length at → c < width kind → get_or fields k [] ≡ name_at kind c → ((i : ℕ) → i < k → get_or at i 0 ≡ c → ⊥) → NamedSofar kind fields (k + 1) (set at k c)
one_named kind fields k at c h l known name new =
    record {
      known = below_more (λ i. get_or (set at k c) i 0 < width kind) k (λ i m. subst (λ d. d < width kind) (sym (before at k c i m)) (h.known i m)) (subst (λ d. d < width kind) (sym (here at k c l)) known);
      names = below_more (λ i. get_or fields i [] ≡ name_at kind (get_or (set at k c) i 0)) k (λ i m. h.names i m ∙ ap (name_at kind) (sym (before at k c i m))) (name ∙ ap (name_at kind) (sym (here at k c l)));
      once = λ i j less m e. elim (cases_order j k) [
        | inl same ↦ let is_j : get_or (set at k c) j 0 ≡ c = ap (λ x. get_or (set at k c) x 0) same ∙ here at k c l in new i (omega arith) (sym (before at k c i (omega arith)) ∙ e ∙ is_j)
        | inr (inl lower) ↦ h.once i j less lower (sym (before at k c i (omega arith)) ∙ e ∙ before at k c j lower)
        | inr (inr higher) ↦ omega arith
      ];
    }

-- all fields are named
pub all_named : (kind : FileKind) (fields : List (List ℕ)) (at : List ℕ) → NamedSofar kind fields (width kind) at → length fields ≡ width kind → length at ≡ 4 → fields ≡ names_in kind (take (width kind) at)
all_named kind fields at h long four =
    let n = width kind in
    let f = few kind in
    let len : length (take n at) ≡ n = length-take-le n at (omega arith) in
    ext_get_or [] fields (names_in kind (take n at)) (long ∙ sym (length-map (take n at) (name_at kind) ∙ len))
    (λ i l. let m : i < n = omega arith in h.names i m ∙ ap (name_at kind) (sym (get_or-take n at i 0 m)) ∙ sym (get_or-map (name_at kind) (take n at) i 0 [] (omega arith)))

-- a line of names in some order
module _ (kind : FileKind) (fields : List (List ℕ)) (order : List ℕ) (each : EachOnce (width kind) order) (is : fields ≡ names_in kind order) where
  pub counted : length fields ≡ width kind
  counted = ap length is ∙ length-map order (name_at kind) ∙ each.long

  pub name_there : (i : ℕ) → i < width kind → get_or fields i [] ≡ name_at kind (get_or order i 0)
  name_there i l = ap (λ fs. get_or fs i []) is ∙ get_or-map (name_at kind) order i 0 [] (omega (arith, each.long))

  -- a column that was found by its name is the one that stands there
  pub found_there : (i c : ℕ) → i < width kind → c < width kind → get_or fields i [] ≡ name_at kind c → c ≡ get_or order i 0
  found_there i c l m e = same_column kind c (get_or order i 0) m (each.known i l) (sym e ∙ name_there i l)

  -- a column that stands twice
  twice : (i j c : ℕ) → i < j → j < width kind → c < width kind → get_or fields i [] ≡ name_at kind c → get_or fields j [] ≡ name_at kind c → ⊥
  twice i j c less l m p q = each.once i j less l (sym (found_there i c (omega arith) m p) ∙ found_there j c l m q)

-- what stands among the first k columns
stood : (at : List ℕ) (k c : ℕ) → k ≤ length at → Has (take k at) c → (i : ℕ) × (i < k) × (get_or at i 0 ≡ c)
stood at k c l h =
    let m : h.0 < k = omega (arith, h.1, length-take-le k at l) in
    (h.0, m, sym (get_or-take k at h.0 0 m) ∙ h.2 0)

pub stands_among : (at : List ℕ) (k c i : ℕ) → k ≤ length at → i < k → get_or at i 0 ≡ c → Has (take k at) c
stands_among at k c i l m e = subst (Has (take k at)) (get_or-take k at i 0 m ∙ e) (has_get_or (take k at) i 0 (omega (arith, length-take-le k at l)))

-- a field, by its place k, that shows the fields to be no line of names
module _ (kind : FileKind) (fields : List (List ℕ)) (k : ℕ) (l : k < width kind) where
  -- a field that is the name of no column
  pub no_column : (field : List ℕ) → get_or fields k [] ≡ field → ((c : ℕ) → c < width kind → field ≡ name_at kind c → ⊥) → NamesRead kind fields None
  no_column field is none order each e = none (get_or order k 0) (each.known k l) (sym is ∙ name_there kind fields order each e k l)

  -- the name of a column that stands among the first k
  pub name_twice : (at : List ℕ) (c : ℕ) → NamedSofar kind fields k at → k < length at → c < width kind → get_or fields k [] ≡ name_at kind c → Has (take k at) c → NamesRead kind fields None
  name_twice at c h long m is has order each e =
      let was = stood at k c (omega arith) has in
      twice kind fields order each e was.0 k c was.1 l m (h.names was.0 was.1 ∙ ap (name_at kind) was.2) is
