-- From the answer for a known kind to the answer of the program.
use Rattle.std.proofs.Common.{◌≡◌, ℕ, List, [], ◌∷◌, map, ℤ, Option, Result, refl, subst}
use Rattle.points.specs.declared.point.Point.{Ghosts as PointGhosts}
use Rattle.points.specs.declared.record.Record.{Ghosts as RecordGhosts}
use Rattle.points.specs.Entries.{entries}
use Rattle.rows.specs.declared.kind.FileKind.{FileKind}
use Rattle.faults.specs.declared.program.ProgramFault.{ProgramFault}
use Rattle.program.specs.declared.report.Report.{Report}
use Rattle.program.specs.Answers.{Answers, GroupedFrom, KindAnswers, Settles, axes_of, both_read, centers_of, centers_refused, entry_of, first_refused, grouped, recording_refused, second_refused, start_at}
use Rattle.program.specs.Inputs.{Accepted, Refused}

-- two ways to the same
pub mapped_twice : {X Y Z : Type 0} (f : X → Z) (g : X → Y) (h : Y → Z) → ((x : X) → f x ≡ h (g x)) → (xs : List X) → map f xs ≡ map h (map g xs)
mapped_twice f g h e [] = refl
mapped_twice f g h e (x ∷ xs) = let r = mapped_twice f g h e xs in λ i. e x i ∷ r i

pub mapped_alike : {X Y : Type 0} (f g : X → Y) → ((x : X) → f x ≡ g x) → (xs : List X) → map f xs ≡ map g xs
mapped_alike f g e [] = refl
mapped_alike f g e (x ∷ xs) = let r = mapped_alike f g e xs in λ i. e x i ∷ r i

pub conclude : {R C : Type 0} (point : PointGhosts R) (record_of : RecordGhosts R) (kind centerKind : FileKind) (fields : R → List ℤ) (centerFields : C → List ℤ) (recording centers : Option (List ℕ)) (answer : Result Report ProgramFault) →
    centerKind ≡ centers_of kind → point.AXES ≡ axes_of kind →
    ((r : R) → (record { place = point.place r; hold = record_of.hold r }) ≡ entry_of kind (fields r)) →
    ((c : C) → start_at (axes_of kind) centerFields c ≡ centerFields c) →
    Settles recording kind → KindAnswers point record_of kind centerKind fields centerFields recording centers answer → Answers recording centers answer
conclude point record_of kind centerKind fields centerFields recording centers answer same axes entry start settles (first_refused h) = recording_refused settles h
conclude point record_of kind centerKind fields centerFields recording centers answer same axes entry start settles (second_refused rs {fault = f} a h) = centers_refused settles a (subst (λ k. Refused 2 k centers f) same h)
conclude point record_of kind centerKind fields centerFields recording centers answer same axes entry start settles (both_read rs cs {report = report} a b h) =
    grouped settles a (subst (λ k. Accepted k centers (map centerFields cs)) same b)
    (subst (λ starts. GroupedFrom (centers_of kind) (axes_of kind) (map (entry_of kind) (map fields rs)) starts report) (mapped_alike (start_at (axes_of kind) centerFields) centerFields start cs)
    (subst (λ es. GroupedFrom (centers_of kind) (axes_of kind) es (map (start_at (axes_of kind) centerFields) cs) report) (mapped_twice (λ r. record { place = point.place r; hold = record_of.hold r }) fields (entry_of kind) entry rs)
    (subst (λ n. GroupedFrom (centers_of kind) n (entries point record_of rs) (map (start_at n centerFields) cs) report) axes
    (subst (λ k. GroupedFrom k point.AXES (entries point record_of rs) (map (start_at point.AXES centerFields) cs) report) same h))))
