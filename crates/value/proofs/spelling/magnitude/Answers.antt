use Rattle.std.proofs.Common.{◌≡◌, ℕ, ◌+◌, ◌-◌, ◌*◌, ◌^◌, ◌<◌, ◌≤◌, List, [], ◌∷◌, ◌++◌, map, length, get_or, Option, Some, None, Bor, refl, arith, rules}
use Rattle.std.specs.Str.Parse.{AllDigits, digits_value}
use Rattle.std.specs.Char.{digit_value}
use Rattle.std.specs.ControlFlow.{continue_value}
use Rattle.std.specs.Int.{IsInRange}
use Rattle.std.specs.Option.{MatchOption}
use Rattle.std.specs.Fn.{Called}
use Rattle.std.specs.Iterator.{TryFoldsItems, TryFoldTurn, CallableAtEachTurn}
use denote.Param.Members.{Mut}
use Rattle.std.proofs.lemmas.Fn.{chained_keeps, serves_by}
use Rattle.std.proofs.lemmas.Int.Digits.{digits_push, digits_value_push}
use Rattle.std.proofs.lemmas.Iterator.{YieldsList, YieldsList-from_slice}
use Rattle.std.proofs.lemmas.Iterator.Consumers.{YieldsList-turn, YieldsList-end}
use Rattle.std.proofs.lemmas.List.{get_or_default, map-append, length-map}
use Rattle.std.proofs.lemmas.Str.Parse.{digits_value_short}
use Rattle.value.specs.Spelling.{Writes}
use Rattle.value.proofs.Shapes.{own, digit_of, written}
use Rattle.value.proofs.spelling.magnitude.Goals as goal

digit_is : (c : ℕ) → 48 ≤ c → c ≤ 57 → digit_value c ≡ c - 48
digit_is c l h = grind arith

-- ds are digits, and n is the number that they write
abbrev IsNumber : List ℕ → ℕ → Type 0
IsNumber ds n = AllDigits 10 ds × (n ≡ digits_value 10 ds)

-- the same of the bytes that a fold has gone over, and of its total
abbrev IsTotal : {F : Type 0} → List (Bor ℕ) → F × ℕ → Type 0
IsTotal xs p = IsNumber (map (λ x. x.now) xs) p.1

-- a turn that goes on is at a digit, which it adds to the number
abbrev AddsDigit : {F : Type 0} → (F × ℕ → Bor ℕ → F × ℕ → Type 0) → Type 0
AddsDigit {F} R = (p : F × ℕ) (x : Bor ℕ) (q : F × ℕ) → R p x q → IsInRange 48 57 x.now × (q.1 ≡ p.1 * 10 + (x.now - 48))

total_more : {F : Type 0} (R : F × ℕ → Bor ℕ → F × ℕ → Type 0) → AddsDigit R → (xs : List (Bor ℕ)) (p : F × ℕ) (x : Bor ℕ) (q : F × ℕ) → IsTotal xs p → R p x q → IsTotal (xs ++ (x ∷ [])) q
total_more R adds xs p x q h k =
    let d = adds p x q k in
    let is = digit_is x.now d.0.0 d.0.1 in
    simp map-append (digits_push 10 _ _ h.0 (omega (arith, is, d.0.1)), omega (arith, is, d.1, h.1, digits_value_push 10 (map (λ y. y.now) xs) x.now))

-- at most five digits come before a turn's, so that the number still fits
callable : {F S : Type 0} {steps : S → Option (Bor ℕ) → S → Type 0} {s : S} {f : F} (R : F × ℕ → Bor ℕ → F × ℕ → Type 0) (Q : F × ℕ → Bor ℕ → Type 0) (ds : List ℕ)
    → YieldsList steps (λ y. y.now) s ds → length ds ≤ 6 → AddsDigit R → ((p : F × ℕ) (x : Bor ℕ) → p.1 < 10 ^ 5 → Q p x)
    → CallableAtEachTurn steps R Q s (f, 0)
callable {steps = steps} {s = s} {f = f} R Q ds y short adds takes = serves_by R IsTotal (total_more R adds) steps Q s (f, 0) (tt, refl) (λ xs t p x u yt st h.
    let at = YieldsList-turn y xs t yt (Some x) u x refl st in
    takes p x (omega (arith, h.1, digits_value_short own (map (λ y. y.now) xs) 5 h.0 (simp length-map (omega (arith, at.0))))))

-- a fold that comes to the end has the number, and one that breaks off is at a byte that is no digit
told : {F S E : Type 0} {steps : S → Option (Bor ℕ) → S → Type 0} (g : Mut F (ℕ × (Bor ℕ × Unit {0})) (Option ℕ)) (ds : List ℕ) (s u : S) (f : F) (r : Option ℕ)
    → TryFoldsItems steps g (λ w b. w ≡ continue_value {B = E} b) (λ (_ : E) w. w ≡ None) s f 0 r u
    → YieldsList steps (λ y. y.now) s ds → length ds ≤ 6
    → AddsDigit (TryFoldTurn g (λ w b. w ≡ continue_value {B = E} b))
    → ((n : ℕ) (x : Bor ℕ) (w : Option ℕ) (p q : F) → Called g p (n, (x, tt)) w q → w ≡ None → IsInRange 48 57 x.now → ⊥)
    → 0 < length ds → 48 < get_or ds 0 0
    → MatchOption r ((n : ℕ) → Writes ds n → ⊥) (λ n. Writes ds n)
told g ds s u f r (xs, None, f', a, t, turns, e) y short adds off some first =
    let total : IsTotal xs (f', a) = chained_keeps _ IsTotal (total_more _ adds) xs (f, 0) (f', a) (tt, refl) turns in
    let all = YieldsList-end y xs t.0 t.1 None u refl t.2 in
    let n : IsNumber ds a = rw all.0 at total in
    rw (e, n.1) (written ds n.0 some short first)
told g ds s u f r (xs, Some x, f', a, t, turns, k) y short adds off some first =
    let at = YieldsList-turn y xs t.0 t.1 (Some x) u x refl t.2 in
    rw k.5 (λ n w. off a x k.0 f' k.1 k.3 k.4 (rw (at.1, get_or_default ds (length xs) x.now 0 at.0) (digit_of ds n w (length xs) at.0)))

pub try_fold-requires-clause-callable : goal.try_fold-requires-clause-callable
try_fold-requires-clause-callable c = callable _ _ c.args.digits.now (YieldsList-from_slice c.args.digits.now cc) c.requires (λ p x q k. search rules) (λ p x b. search rules)

pub returns : goal.returns
returns c = told _ c.args.digits.now _ _ _ _ c.try_fold.ensures.ran (YieldsList-from_slice c.args.digits.now cc) c.requires (λ p x q k. search rules) (λ n x w p q k e i. search rules) (omega arith) (omega arith)
