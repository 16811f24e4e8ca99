-- A witness that is read turn by turn.
use Rattle.std.proofs.Common.{◌≡◌, ℕ, List, [], ◌∷◌, ◌++◌, Bool, refl, sym, ap, subst, ◌∙◌, map}
use Rattle.std.proofs.lemmas.List.{map-append}
use Rattle.std.proofs.lemmas.List.Elements.{All-push, All-nil}
use Rattle.kmipa_ttlv.specs.Tree.{Tree}
use Rattle.kmipa_record.specs.Files.{Tells}
use Rattle.kmipa_record.specs.Marks.{IsCallNumber}
use Rattle.kmipa_record.specs.Reading.{IsReading, Takes, ReadFails, HeaderFails}
use Rattle.kmipa_record.specs.Witnesses.{TurnOf, turn_of, turn_item, witness_header, ArePayloads, AreBirths, Admits, AreRightInWitness, WitnessItemFault, WitnessEndFault, TurnItemFault, no_turn, below_one, WitnessFault, IsWitnessUpTo, IsWitness}
use Rattle.kmipa_record.specs.WitnessReading.{IsReadSoFar, RefusesTurn, no_memory, foreign, low}
use Rattle.kmipa_record.specs.declared.fault.RecordFault.{RecordFault}
use Rattle.kmipa_record.specs.declared.fault.RecordKind.{RecordKind}
use Rattle.kmipa_record.specs.declared.fault.RecordKind.TheVariants.{Number, Entry, Memory}
use Rattle.kmipa_record.specs.declared.turn.Turn.{Turn}
use Rattle.kmipa_record.specs.declared.version.Version.{Version}
use Rattle.kmipa_record.proofs.KindLemmas.{caused}
use Rattle.kmipa_record.proofs.FileLemmas.{goes_on, starts, ends_here, Stands, tells_read, item_reported, right_here, tells_header}
use Rattle.kmipa_record.proofs.TurnLemmas.{turn_item_once}

abbrev items_of : Version → List TurnOf → List Tree
items_of version turns = witness_header version ∷ map turn_item turns

-- the item is the header of some version
abbrev pub IsHeader : Tree → Type 0
IsHeader item = (version : Version) × (item ≡ witness_header version)

stands : (file : List ℕ) (version : Version) (turns : List TurnOf) (left : List ℕ) (place : ℕ) → IsReadSoFar file version turns left place
    → Stands AreRightInWitness file (items_of version turns) left place
stands file version turns left place s = record { right = (version, refl, record { turns = turns; are = refl; admitted = s.admitted; numbered = s.numbered }); reading = s.reading }

pub header_fails : (file : List ℕ) (place : ℕ) (failed : Bool) (f : RecordFault) → place ≡ 0 → HeaderFails IsHeader place file failed f
    → Tells WitnessFault IsWitnessUpTo file failed f
header_fails file place failed f zero h =
    tells_header AreRightInWitness WitnessItemFault WitnessEndFault IsHeader tt (λ item kind differs k. (λ version e. differs (version, e), k)) (λ file offset kind o k. (o, k)) file place failed f zero h

pub header_read : (file left : List ℕ) (version : Version) (place place' : ℕ) (turns : List Turn) → place ≡ 0 → turns ≡ [] → Takes (witness_header version) file left place place'
    → IsReadSoFar file version (map turn_of turns) left place'
header_read file left version place place' turns zero e t =
    subst (λ (l : List Turn). IsReadSoFar file version (map turn_of l) left place') (sym e) (record {
      reading = goes_on file [] (witness_header version) file left place place' t (starts file place zero);
      admitted = All-nil (Admits version);
      numbered = All-nil (λ turn. IsCallNumber turn.call);
    })

pub read_fails : (file : List ℕ) (version : Version) (turns : List TurnOf) (left : List ℕ) (place : ℕ) (failed : Bool) (f : RecordFault) → IsReadSoFar file version turns left place
    → ReadFails place left failed f → Tells WitnessFault IsWitnessUpTo file failed f
read_fails file version turns left place failed f s h =
    tells_read AreRightInWitness WitnessItemFault WitnessEndFault file (items_of version turns) left place failed f (stands file version turns left place s) h

item_fault : (file : List ℕ) (version : Version) (turns : List TurnOf) (item : Tree) (left after : List ℕ) (place place' : ℕ) (kind : RecordKind)
    → IsReadSoFar file version turns left place → Takes item left after place place' → TurnItemFault version item kind → WitnessFault file place kind
item_fault file version turns item left after place place' kind s t wrong =
    item_reported AreRightInWitness WitnessItemFault WitnessEndFault file (items_of version turns) item left after place place' kind (stands file version turns left place s) t
    (version, refl, wrong)

pub no_turn_reported : (file : List ℕ) (version : Version) (turns : List TurnOf) (item : Tree) (left after : List ℕ) (place place' : ℕ) (failed : Bool)
    → IsReadSoFar file version turns left place → Takes item left after place place' → ¬ ((turn : TurnOf) × (item ≡ turn_item turn) × ArePayloads turn.fills × AreBirths turn.births)
    → Tells WitnessFault IsWitnessUpTo file failed (record { offset = place; kind = Entry })
no_turn_reported file version turns item left after place place' failed s t none =
    item_fault file version turns item left after place place' Entry s t (no_turn (λ turn a e. none (turn, e, a.payloads, a.attributes)) refl)

pub refused_reported : (file : List ℕ) (version : Version) (turns : List TurnOf) (turn : TurnOf) (left after : List ℕ) (place place' : ℕ) (failed : Bool) (f : RecordFault)
    → IsReadSoFar file version turns left place → Takes (turn_item turn) left after place place' → f.offset ≡ place → RefusesTurn version turn f.kind
    → Tells WitnessFault IsWitnessUpTo file failed f
refused_reported file version turns turn left after place place' failed f s t o (no_memory k) =
    caused f.kind Memory _ _ _ k (subst (IsWitnessUpTo file) (sym o) (right_here AreRightInWitness file (items_of version turns) left place (stands file version turns left place s)))
refused_reported file version turns turn left after place place' failed f s t o (foreign not k) =
    caused f.kind Entry _ _ _ k (subst (λ (n : ℕ). WitnessFault file n f.kind) (sym o)
    (item_fault file version turns (turn_item turn) left after place place' f.kind s t
    (no_turn (λ other a e. not (subst (Admits version) (sym (turn_item_once turn other e)) a)) k)))
refused_reported file version turns turn left after place place' failed f s t o (low a l k) =
    caused f.kind Number _ _ _ k (subst (λ (n : ℕ). WitnessFault file n f.kind) (sym o)
    (item_fault file version turns (turn_item turn) left after place place' f.kind s t (below_one turn a refl l k)))

took : (file : List ℕ) (version : Version) (turns : List TurnOf) (turn : TurnOf) (left after : List ℕ) (place place' : ℕ) → Takes (turn_item turn) left after place place' → Admits version turn
    → IsCallNumber turn.call → IsReadSoFar file version turns left place → IsReadSoFar file version (turns ++ turn ∷ []) after place'
took file version turns turn left after place place' t admits number s = record {
  reading = subst (λ (l : List Tree). IsReading file (witness_header version ∷ l) after place') (sym (map-append turn_item turns (turn ∷ [])))
      (goes_on file (items_of version turns) (turn_item turn) left after place place' t s.reading);
  admitted = All-push (Admits version) turns turn s.admitted admits;
  numbered = All-push (λ u. IsCallNumber u.call) turns turn s.numbered number;
}

pub turn_taken : (file : List ℕ) (version : Version) (turns more : List Turn) (turn : Turn) (left after : List ℕ) (place place' : ℕ) → more ≡ turns ++ turn ∷ []
    → Takes (turn_item (turn_of turn)) left after place place' → Admits version (turn_of turn) → IsCallNumber turn.call → IsReadSoFar file version (map turn_of turns) left place
    → IsReadSoFar file version (map turn_of more) after place'
turn_taken file version turns more turn left after place place' e t admits number s =
    let same : map turn_of more ≡ map turn_of turns ++ turn_of turn ∷ [] = ap (map turn_of) e ∙ map-append turn_of turns (turn ∷ []) in
    subst (λ (l : List TurnOf). IsReadSoFar file version l after place') (sym same) (took file version (map turn_of turns) (turn_of turn) left after place place' t admits number s)

pub whole : (file : List ℕ) (version : Version) (turns : List TurnOf) (place : ℕ) → IsReadSoFar file version turns [] place → IsWitness file turns
whole file version turns place s =
    record { version = version; spelled = ends_here file (items_of version turns) [] place refl s.reading; admitted = s.admitted; numbered = s.numbered }
