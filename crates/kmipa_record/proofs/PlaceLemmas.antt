-- Where the item begins that was being read.
use Rattle.std.proofs.Common.{◌≡◌, ℕ, List, [], ◌∷◌, ◌++◌, length, drop, append_assoc, Bool, Option, None, Some, inl, inr, refl, sym, ap, subst, ◌∙◌, arith}
use Rattle.std.proofs.Math.Seq.{drop-append_seam}
use Rattle.std.proofs.lemmas.List.{append-nil}
use Rattle.std.specs.Io.{appended_bytes}
use Rattle.kmipa_ttlv.specs.Tree.{Tree}
use Rattle.kmipa_ttlv.specs.Spelling.{Spells}
use Rattle.kmipa_ttlv.specs.Flaw.{head_flaw}
use Rattle.kmipa_ttlv.specs.Reading.{IsWhole, ReadTells, StopsInside}
use Rattle.kmipa_ttlv.specs.Stream.{Begins, IsCutShort}
use Rattle.kmipa_ttlv.specs.declared.fault.FaultKind.{FaultKind}
use Rattle.kmipa_ttlv.specs.declared.fault.FaultKind.TheVariants as flaw
use Rattle.kmipa_ttlv.specs.declared.fault.TtlvFault.{TtlvFault}
use Rattle.kmipa_ttlv.proofs.LawLemmas.{no_flaw_lem}
use Rattle.kmipa_ttlv.proofs.ReadLemmas.{head_fails}
use Rattle.kmipa_record.specs.Files.{IsOneItemAtMost, TellsItem}
use Rattle.kmipa_record.specs.Reading.{record_kind, TellsFlawOf, Takes}
use Rattle.kmipa_record.specs.DeclarationReading.{IsRefused, inadmissible, behind}
use Rattle.kmipa_record.specs.DeclarationRecords.{RecordOf, row, allow, own, entry, aside}
use Rattle.kmipa_record.specs.Declarations.{DeclarationOf, misplaced_kind}
use Rattle.kmipa_record.specs.Kinds.{ByCause}
use Rattle.kmipa_record.specs.declared.declaration_header.DeclarationHeader.{DeclarationHeader}
use Rattle.kmipa_record.specs.declared.fault.RecordKind.{RecordKind}
use Rattle.kmipa_record.specs.declared.reach.Reach.{Reach}
use Rattle.kmipa_record.specs.Witnesses.{TurnOf}
use Rattle.kmipa_record.specs.WitnessReading.{RefusesTurn, no_memory, foreign, low}
use Rattle.kmipa_record.specs.declared.fault.RecordFault.{RecordFault}
use Rattle.kmipa_record.specs.declared.fault.RecordKind.TheVariants.{Ttlv, Number, Identifier, Entry, Memory}
use Rattle.kmipa_record.specs.declared.version.Version.{Version}
use Rattle.kmipa_record.proofs.KindLemmas.{caused}

-- ---- one item

unflawed : (item : Tree) (bytes : List ℕ) (m : Option (ℕ × FaultKind)) → Spells item bytes → head_flaw bytes ≡ m → m ≡ None
unflawed item bytes None s e = refl
unflawed item bytes (Some f) s e = absurd (no_flaw_lem item bytes [] f.0 f.1 s (head_fails bytes [] f.0 f.1 (omega (arith, s.all)) e))

-- what an item's spelling is
pub spelled_whole : (item : Tree) (bytes : List ℕ) → Spells item bytes → IsWhole bytes
spelled_whole item bytes s = record { header = omega (arith, s.all); right = unflawed item bytes (head_flaw bytes) s refl; all = s.all }

-- a whole item came from this place on
pub one_whole : (old new bytes : List ℕ) (offset : ℕ) → offset ≡ length old → new ≡ old ++ bytes → IsWhole bytes → IsOneItemAtMost (drop offset new)
one_whole old new bytes offset o e w = inr (subst IsWhole (sym (ap (λ (n : ℕ). drop n new) o ∙ ap (drop (length old)) e ∙ drop-append_seam old bytes)) w)

-- the same, where the item was taken
pub whole_taken : (item : Tree) (old new : List ℕ) (place place' offset : ℕ) → Takes item (appended_bytes old new ++ []) [] place place' → offset ≡ length old → IsOneItemAtMost (drop offset new)
whole_taken item old new place place' offset t o =
    let same : drop offset new ≡ t.front = ap (λ (n : ℕ). drop n new) o ∙ sym (append-nil (appended_bytes old new)) ∙ t.consumed ∙ append-nil t.front in
    inr (subst IsWhole (sym same) (spelled_whole item t.front t.spelled))

-- items stand before what is left
pub begins_ahead : (items : List Tree) (bytes rest : List ℕ) → Begins items bytes rest → (before : List ℕ) × (bytes ≡ before ++ rest)
begins_ahead [] bytes rest e = ([], e)
begins_ahead (item ∷ items) bytes rest b =
    let more = begins_ahead items b.1 rest b.4 in
    (b.0 ++ more.0, b.2 ∙ ap (λ (l : List ℕ). b.0 ++ l) more.1 ∙ sym (append_assoc b.0 more.0 rest))

-- ---- what is reported

stopped_by : (k : FaultKind) (o : ℕ) (old new : List ℕ) (ended failed : Bool) → ReadTells (length old) (appended_bytes old new) ended failed (record { offset = o; kind = k })
    → StopsInside k (appended_bytes old new) → TellsItem new (record { offset = o; kind = record_kind k })
stopped_by flaw.Device o old new ended failed h s = subst (λ (n : ℕ). IsCutShort (drop n new)) (sym h.1) s
stopped_by flaw.Memory o old new ended failed h s = inl (subst (λ (n : ℕ). IsCutShort (drop n new)) (sym h) s)
stopped_by flaw.Truncated o old new ended failed h s = tt
stopped_by flaw.UnknownType o old new ended failed h s = tt
stopped_by flaw.BadLength o old new ended failed h s = tt
stopped_by flaw.BadBoolean o old new ended failed h s = tt
stopped_by flaw.BadText o old new ended failed h s = tt
stopped_by flaw.Overrun o old new ended failed h s = tt
stopped_by flaw.TooDeep o old new ended failed h s = tt
stopped_by flaw.TooLong o old new ended failed h s = tt

-- a read failed, or found no memory
pub stopped_inside : (f : TtlvFault) (old new : List ℕ) (ended failed : Bool) → ReadTells (length old) (appended_bytes old new) ended failed f
    → StopsInside f.kind (appended_bytes old new) → TellsItem new (record { offset = f.offset; kind = record_kind f.kind })
stopped_inside f old new ended failed h s = stopped_by f.kind f.offset old new ended failed h s

-- a whole item was refused
pub refused_whole : (f : RecordFault) (place : ℕ) (bytes came : List ℕ) → TellsFlawOf place bytes f → TellsItem came f
refused_whole f place bytes came h = caused f.kind (Ttlv h.flaw) _ _ _ h.kind_is tt

pub refused_turn_place : (version : Version) (turn : TurnOf) (came : List ℕ) (f : RecordFault) → IsOneItemAtMost (drop f.offset came) → RefusesTurn version turn f.kind → TellsItem came f
refused_turn_place version turn came f one (no_memory e) = caused f.kind Memory _ _ _ e one
refused_turn_place version turn came f one (foreign d e) = caused f.kind Entry _ _ _ e tt
refused_turn_place version turn came f one (low a l e) = caused f.kind Number _ _ _ e tt

misplaced_place : (r : RecordOf) (kind : RecordKind) (D M : Type 0) → kind ≡ misplaced_kind r → ByCause kind D M (Unit {0})
misplaced_place (row r) kind D M e = caused kind Entry _ _ _ e tt
misplaced_place (allow l) kind D M e = caused kind Entry _ _ _ e tt
misplaced_place (own a) kind D M e = caused kind Entry _ _ _ e tt
misplaced_place (entry x) kind D M e = caused kind Identifier _ _ _ e tt
misplaced_place (aside id) kind D M e = caused kind Identifier _ _ _ e tt

pub refused_record_place : (reach : Reach) (h : DeclarationHeader) (declared : DeclarationOf) (r : RecordOf) (came : List ℕ) (f : RecordFault) → IsOneItemAtMost (drop f.offset came) → IsRefused reach h declared r f.kind → TellsItem came f
refused_record_place reach h declared r came f one (inadmissible n e) = caused f.kind Entry _ _ _ e tt
refused_record_place reach h declared r came f one (behind n (inl e)) = caused f.kind Memory _ _ _ e one
refused_record_place reach h declared r came f one (behind n (inr x)) = misplaced_place r f.kind _ _ x.0
