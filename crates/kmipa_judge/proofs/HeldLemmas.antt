-- Inputs over bytes that lie in memory.
use Rattle.std.proofs.Common.{◌≡◌, ℕ, Bool, true, false, IsTrue, List, [], ◌++◌, Option, Some, Result, Ok, Err, sym, ap, subst, ◌∙◌, append_assoc}
use Rattle.std.specs.Prelude.{IfOk, IfErr}
use Rattle.kmipa_ttlv.specs.Input.{came_of, reader_of, is_ended, is_failed, IsFileOf, IsOver, StaysOver}
use Rattle.kmipa_ttlv.specs.declared.input.Input.{Input}
use Rattle.kmipa_ttlv.proofs.ReadLemmas.{whole_file}
use Rattle.kmipa_record.specs.Files.{Tells}
use Rattle.kmipa_record.specs.declared.fault.RecordFault.{RecordFault}
use Rattle.kmipa_record.specs.declared.fault.RecordKind.{RecordKind}
use Rattle.kmipa_telling.specs.Judging.{ReadsBytes}

-- an input over known bytes that doesn't fail is of these bytes
known_file : {R : Type 0} (remaining : R → Option (List ℕ)) (bytes : List ℕ) (old new : Input R) → came_of old ≡ [] → is_ended old ≡ false
    → remaining (reader_of old) ≡ Some bytes → StaysOver remaining old new → is_failed new ≡ false → IsFileOf bytes new
known_file remaining bytes old new none goes left over works =
    let start : IsOver remaining bytes old = λ f. record {
      rest = bytes;
      left_is = left;
      split = sym (ap (λ (l : List ℕ). l ++ bytes) none);
      end = λ e. let clash : true ≡ false = sym e ∙ goes in absurd cc;
    } in
    let s = over bytes start works in (s.rest, s.split, s.end)

both_empty : (xs ys : List ℕ) → xs ≡ [] → ys ≡ [] → xs ++ ys ≡ []
both_empty xs ys ex ey = ap (λ (l : List ℕ). l ++ ys) ex ∙ ey

-- more may follow an input that is of these bytes
more_file : {R : Type 0} (bytes after : List ℕ) (i : Input R) → IsFileOf bytes i → (IsTrue (is_ended i) → after ≡ []) → IsFileOf (bytes ++ after) i
more_file bytes after i is end = (
  is.0 ++ after,
  ap (λ (l : List ℕ). l ++ after) is.1 ∙ append_assoc (came_of i) is.0 after,
  λ e. both_empty is.0 after (is.2 e) (end e),
)

-- what is read of an input over known bytes that doesn't fail is read of the bytes
pub read_known : {T R : Type 0} (r : Result T RecordFault) (remaining : R → Option (List ℕ)) (bytes : List ℕ) (old new : Input R) (Is : List ℕ → T → Type 0)
    (Flaw : List ℕ → ℕ → RecordKind → Type 0) (Right : List ℕ → ℕ → Type 0) (all : Bool) → came_of old ≡ [] → is_ended old ≡ false → remaining (reader_of old) ≡ Some bytes
    → StaysOver remaining old new → is_failed new ≡ false → all ≡ is_ended new → IfOk r (λ t. Is (came_of new) t × IsTrue (is_ended new))
    → ((file : List ℕ) → IsFileOf file new → IfErr r (Tells Flaw Right file (is_failed new))) → ReadsBytes Is Flaw Right bytes r all
read_known (Ok t) remaining bytes old new Is Flaw Right all none goes left over works seen found fault =
    whole_file bytes new (λ b. Is b t) found.1 (known_file remaining bytes old new none goes left over works) found.0
read_known (Err f) remaining bytes old new Is Flaw Right all none goes left over works seen found fault = λ after end.
    let P : Bool → Type 0 = λ b. Tells Flaw Right (bytes ++ after) b f in
    subst P works (fault (bytes ++ after) (more_file bytes after new (known_file remaining bytes old new none goes left over works) (λ e. end (seen ∙ e))))

-- and what is said besides of what was read
pub read_and : {T : Type 0} (r : Result T RecordFault) (Is And : List ℕ → T → Type 0) (came : List ℕ) (ended : Bool)
    → IfOk r (λ t. Is came t × IsTrue ended) → IfOk r (And came) → IfOk r (λ t. (Is came t × And came t) × IsTrue ended)
read_and (Ok t) Is And came ended p d = ((p.0, d), p.1)
read_and (Err f) Is And came ended p d = tt
