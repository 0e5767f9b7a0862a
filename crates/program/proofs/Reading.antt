-- What a file that was read into a table of 4,096 rows is.
use Rattle.std.proofs.Common.{◌≡◌, ℕ, ◌<◌, ◌≤◌, min, Bool, true, false, cond, List, map, length, take, ℤ, Some, None, Ok, Err, Option, Result, sym, ◌∙◌, subst, arith}
use Rattle.std.proofs.lemmas.List.{length-map, length-take-le}
use Rattle.rows.specs.declared.kind.FileKind.{FileKind}
use Rattle.rows.specs.Columns.{is_centers}
use Rattle.files.specs.Format.{Outcome, most}
use Rattle.files.proofs.Outcomes.{accepted}
use Rattle.faults.specs.declared.program.ProgramFault.{ProgramFault}
use Rattle.faults.specs.declared.program.ProgramFault.TheVariants.{CannotOpen, TooLong, File}
use Rattle.program.specs.Inputs.{Accepted, Loaded, Refused, faulty, unusable}

module _ {R : Type 0} (file : ℕ) (kind : FileKind) (fields : R → List ℤ) (input : Option (List ℕ)) (old new : List R) (four : length old ≡ 4096) where
  refused_at : (fault : ProgramFault) → Loaded file kind fields input old new (Err fault) → Refused file kind input fault
  refused_at (CannotOpen n) h = unusable h
  refused_at (TooLong n) h = unusable h
  refused_at (File n fault) h =
      subst (λ m. Refused file kind input (File m fault)) (sym h.0)
      (faulty h.1.1 (subst (λ room. Outcome kind room h.1.0 (map fields (take h.1.2.0 new)) (Some fault)) four h.1.2.1.outcome))

  pub was_refused : (r : Result ℕ ProgramFault) (fault : ProgramFault) → Loaded file kind fields input old new r → r ≡ Err fault → Refused file kind input fault
  was_refused r fault h e = refused_at fault (subst (Loaded file kind fields input old new) e h)

  pub was_accepted : (r : Result ℕ ProgramFault) (n : ℕ) → length new ≡ length old → Loaded file kind fields input old new r → r ≡ Ok n → Accepted kind input (map fields (take n new)) × ((0 < n) × (n ≤ most kind 4096))
  was_accepted r n long h e =
      let p : Loaded file kind fields input old new (Ok n) = subst (Loaded file kind fields input old new) e h in
      let outcome = subst (λ room. Outcome kind room p.0 (map fields (take n new)) None) four p.2.outcome in
      let a = (accepted kind 4096 p.0 (map fields (take n new))).0 outcome in
      let count : length (map fields (take n new)) ≡ n = length-map (take n new) fields ∙ length-take-le n new (omega (arith, p.2.room)) in
      (record { bytes = p.0; usable = p.1; spelled = a.0; limits = a.1 }, (subst (λ k. 0 < k) count a.1.0, subst (λ k. k ≤ most kind 4096) count a.1.1))

few_rows : (centers : Bool) (n : ℕ) → n ≤ cond centers (min 32 4096) 4096 → n ≤ 4096
few_rows true n l = omega arith
few_rows false n l = omega arith

-- no file has more rows than its table
pub in_table : (kind : FileKind) (n : ℕ) → n ≤ most kind 4096 → n ≤ 4096
in_table kind n l = few_rows (is_centers kind) n l

pub few_centers : (kind : FileKind) (n : ℕ) → is_centers kind ≡ true → n ≤ most kind 4096 → n ≤ 32
few_centers kind n e l = subst (λ b. n ≤ cond b (min 32 4096) 4096) e l
