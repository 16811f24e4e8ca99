-- The next item of a file.
use Rattle.std.proofs.Common.{◌≡◌, ℕ, List, [], length, Bool, ◌++◌, IsTrue, drop, append_assoc, refl, sym, ap, subst, ◌∙◌, arith}
use Rattle.std.proofs.lemmas.List.{length-append}
use Rattle.std.specs.Io.{StartsWith, appended_bytes}
use Rattle.kmipa_ttlv.specs.Tree.{Tree}
use Rattle.kmipa_ttlv.specs.Reading.{IsWhole, ReadTells}
use Rattle.kmipa_ttlv.specs.declared.fault.TtlvFault.{TtlvFault}
use Rattle.kmipa_ttlv.proofs.ReadLemmas.{whole_stays, known_flaw_lem, starts_with_rest}
use Rattle.kmipa_record.specs.Reading.{record_kind, TellsFlawOf, ReadFails, Takes, HeaderFault, absent, other}
use Rattle.kmipa_record.specs.declared.fault.RecordFault.{RecordFault}
use Rattle.kmipa_record.specs.declared.fault.RecordKind.TheVariants.{Ttlv, Header}
use Rattle.kmipa_record.proofs.KindLemmas.{caused, cause_same}

-- the fault of what was read, as a fault of a file
pub read_fails : (place : ℕ) (came after left : List ℕ) (ended failed : Bool) (f : TtlvFault) → left ≡ came ++ after → (IsTrue ended → after ≡ [])
    → ReadTells place came ended failed f → ReadFails place left failed (record { offset = f.offset; kind = record_kind f.kind })
read_fails place came after left ended failed f e end t =
    let known = known_flaw_lem place came after ended failed f end t in
    rw e (cause_same f.kind _ _ _ (λ k. TellsFlawOf place (came ++ after) (record { offset = f.offset; kind = k }))
    (λ device memory reported. record { some = reported.0; from = reported.1.from; flaw = f.kind; wrong = reported.1.flaw; placed = reported.1.placed; kind_is = refl }) known)

-- the flaw of the value of a whole item
pub whole_fails : (left after bytes : List ℕ) (place : ℕ) (failed : Bool) (f : RecordFault) → left ≡ bytes ++ after → IsWhole bytes
    → TellsFlawOf place bytes f → ReadFails place left failed f
whole_fails left after bytes place failed f e w t =
    rw e (caused f.kind (Ttlv t.flaw) _ _ _ t.kind_is (record {
      some = omega (arith, t.some, length-append bytes after);
      from = t.from;
      flaw = t.flaw;
      wrong = whole_stays bytes after t.from t.flaw w t.wrong;
      placed = t.placed;
      kind_is = t.kind_is;
    }))

-- a file without a header
pub no_header_left : (is_header : Tree → Type 0) (place : ℕ) (left after : List ℕ) → left ≡ after → after ≡ []
    → HeaderFault is_header place left (record { offset = place; kind = Header })
no_header_left is_header place left after e end = absent (e ∙ end) refl refl

-- a file whose first item is no header
pub other_header : (is_header : Tree → Type 0) (item : Tree) (place place' : ℕ) (left after : List ℕ) → Takes item left after place place' → ¬ (is_header item)
    → HeaderFault is_header place left (record { offset = place; kind = Header })
other_header is_header item place place' left after t differs = other item t.front after t.consumed t.spelled differs refl refl

-- an item that was taken, as the one that it is
pub takes_as : (item : Tree) (left after : List ℕ) (place place' : ℕ) → (i : Tree) × Takes i left after place place' × (i ≡ item) → Takes item left after place place'
takes_as item left after place place' t = subst (λ (i : Tree). Takes i left after place place') t.2 t.1

-- ---- what came

pub none_before : (old new after : List ℕ) → old ≡ [] → new ++ after ≡ appended_bytes old new ++ after
none_before old new after e = ap (λ (l : List ℕ). drop (length l) new ++ after) (sym e)

pub regrouped : (old new after : List ℕ) → StartsWith new old → new ++ after ≡ old ++ (appended_bytes old new ++ after)
regrouped old new after s = ap (λ (l : List ℕ). l ++ after) (starts_with_rest new old s) ∙ append_assoc old (drop (length old) new) after
