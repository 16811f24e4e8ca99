-- What is made and printed of a segment.
use Rattle.std.proofs.Common.{◌≡◌, ◌⊎◌, inl, inr, ◌<◌, ◌≤◌, ◌+◌, ℕ, ℤ, List, [], ◌++◌, Bool, true, false, Option, Some, None, Result, Ok, Err, is_ok, if◌then◌else◌, map, length, get_or, MatchOption, refl, sym, ap, ◌∙◌, subst, arith}
use Rattle.std.proofs.lemmas.List.{append-nil}
use Rattle.std.proofs.lemmas.Option.{slice_get-map, slice_get_read}
use Rattle.std.specs.Prelude.{IfOk, IsOkAnd, String, option_map, slice_get, string_bytes}
use Rattle.std.specs.Result.{is_err}
use Rattle.std.specs.Io.{appended_bytes}
use Rattle.std.specs.declared.alloc.AllocError.{AllocError}
use Rattle.std.specs.declared.alloc.Global.{Global}
use borrow.Author.Count.{below_more}
use Rattle.kmipa_record.specs.Marks.{MarkOf}
use Rattle.kmipa_record.specs.Transcripts.{transcript_of}
use Rattle.kmipa_record.specs.Declarations.{DeclarationOf, declaration_of, IsDeclaration}
use Rattle.kmipa_record.specs.Entries.{EntryOf, entry_of, IsTooLong}
use Rattle.kmipa_record.specs.Witnesses.{TurnOf, witness_of}
use Rattle.kmipa_record.specs.Writing.{Appends, IsWrittenDeclaration, Unwritten, no_memory, no_file}
use Rattle.kmipa_record.specs.declared.entry.Entry.{Entry}
use Rattle.kmipa_record.specs.declared.fault.RecordFault.{RecordFault}
use Rattle.kmipa_record.specs.declared.fault.RecordKind.{RecordKind}
use Rattle.kmipa_record.specs.declared.fault.RecordKind.TheVariants as kind
use Rattle.kmipa_check.specs.Audits.{AreRecords}
use Rattle.kmipa_check.specs.Left.{LeavesAtYes}
use Rattle.kmipa_check.specs.Since.{ChecksSince}
use Rattle.kmipa_check.specs.declared.auditing.AuditRecords.{AuditRecords}
use Rattle.kmipa_check.specs.declared.segment.Checked.{Checked}
use Rattle.kmipa_check.specs.declared.segment.Left.{Left}
use Rattle.kmipa_check.specs.declared.verdict.Verdict.{Verdict}
use Rattle.kmipa_check.specs.declared.verdict.Verdict.TheVariants as verdict
use Rattle.kmipa_stream.specs.declared.tally.Tally.{Tally}
use Rattle.kmipa_runs.specs.Lines.{PrintsVerdict, TalliesRecorded, yes_text}
use Rattle.kmipa_jobs.specs.Statuses.{IsSilent}
use Rattle.kmipa_runs.specs.declared.lines.Lines.{Lines}
use Rattle.kmipa_jobs.specs.declared.status.Status.{Status}
use Rattle.kmipa_jobs.specs.declared.status.Status.TheVariants as status
use Rattle.kmipa_runs.proofs.AppendLemmas.{since}
use Rattle.kmipa_runs.proofs.LineLemmas.{done_is_yes}
use Rattle.kmipa_segments.specs.Leaving.{AreChecked, IsTooLongAt, Lead, LeadsAsAsked, NoneTooLongBefore, PrintsLeft, PrintsUnwritten, RecordsLead, TellsChecked, TellsLeft, TellsSegment, entry_line, if_asked, made_whole, not_made, otherwise, too_long, unwritable_line}
use Rattle.kmipa_segments.specs.declared.leaving.Segment.{Segment}

-- ---- the inputs

-- the records that were read, and what is handed out at a yes
pub checked_files : (t d w : List ℕ) (records : AuditRecords) (checked : Checked) (moment : Option ℤ) → AreRecords records t d w
    → ChecksSince (transcript_of records.transcript) (declaration_of records.declaration) moment (witness_of records.witness) (Ok checked.verdict)
    → LeavesAtYes checked.verdict checked.left (λ (left : Left). RecordsLead records moment left) → AreChecked (record { records = records; checked = checked }) t d w moment
checked_files t d w records checked moment are right leads = record { records = are; verdict = right; leads = leads }

-- ---- which entry is too long

entry_at : (entries : List Entry) (place : ℕ) (x : Entry) → place < length entries → x ≡ get_or entries place x → slice_get (map entry_of entries) place ≡ Some (entry_of x)
entry_at entries place x h is = slice_get-map entry_of entries place ∙ ap (option_map entry_of) (slice_get_read entries (length entries) place x refl h is)

-- what a test refutes
pub refuted : {P : Type 0} (test : Bool) → test ≡ false → (P → test ≡ true) → P → ⊥
refuted test fails passes p = let clash : true ≡ false = sym (passes p) ∙ fails in absurd cc

-- this one is
pub long_at : (entries : List Entry) (place : ℕ) (x : Entry) → place < length entries → x ≡ get_or entries place x → IsTooLong (entry_of x)
    → IsTooLongAt (map entry_of entries) place
long_at entries place x h is long = (entry_of x, entry_at entries place x h is, long)

short_at : (entries : List Entry) (place : ℕ) (x : Entry) → place < length entries → x ≡ get_or entries place x → (IsTooLong (entry_of x) → ⊥)
    → IsTooLongAt (map entry_of entries) place → ⊥
short_at entries place x h is short l =
    let e = sym (entry_at entries place x h is) ∙ l.1 in
    let same : entry_of x ≡ l.0 = cc in
    let P : EntryOf → Type 0 = λ y. IsTooLong y in
    short (subst P (sym same) l.2)

-- this one isn't either
pub none_more : (entries : List Entry) (place : ℕ) (x : Entry) → place < length entries → x ≡ get_or entries place x → (IsTooLong (entry_of x) → ⊥)
    → NoneTooLongBefore (map entry_of entries) place → NoneTooLongBefore (map entry_of entries) (place + 1)
none_more entries place x h is short none =
    let P : ℕ → Type 0 = λ at. IsTooLongAt (map entry_of entries) at → ⊥ in
    below_more P place none (short_at entries place x h is short)

-- and none of all
pub none_of_all : (entries : List Entry) (place : ℕ) → length entries ≤ place → NoneTooLongBefore (map entry_of entries) place
    → NoneTooLongBefore (map entry_of entries) (length entries)
none_of_all entries place h none = λ at below. none at (omega arith)

-- the line of it, or that none is
pub entry_told : (entries : List EntryOf) (count : ℕ) (found : Option ℕ) (place : ℕ) (text : Result (String Global) AllocError)
    → MatchOption found (NoneTooLongBefore entries count) (λ (p : ℕ). NoneTooLongBefore entries p × IsTooLongAt entries p) → found ≡ Some place
    → IfOk text (λ t. string_bytes t ≡ entry_line (place + 1)) → IfOk text (λ t. PrintsUnwritten entries (string_bytes t))
entry_told entries count found place (Err e) first is reads = tt
entry_told entries count found place (Ok t) first is reads =
    let P : Option ℕ → Type 0 = λ o. MatchOption o (NoneTooLongBefore entries count) (λ (p : ℕ). NoneTooLongBefore entries p × IsTooLongAt entries p) in
    let here = subst P is first in
    too_long place here.0 here.1 reads

pub none_told : (entries : List EntryOf) (count : ℕ) (found : Option ℕ) (text : Result (String Global) AllocError)
    → MatchOption found (NoneTooLongBefore entries count) (λ (p : ℕ). NoneTooLongBefore entries p × IsTooLongAt entries p) → found ≡ None → count ≡ length entries
    → IfOk text (λ t. string_bytes t ≡ unwritable_line) → IfOk text (λ t. PrintsUnwritten entries (string_bytes t))
none_told entries count found (Err e) first is all reads = tt
none_told entries count found (Ok t) first is all reads =
    let P : Option ℕ → Type 0 = λ o. MatchOption o (NoneTooLongBefore entries count) (λ (p : ℕ). NoneTooLongBefore entries p × IsTooLongAt entries p) in
    let Q : ℕ → Type 0 = λ n. NoneTooLongBefore entries n in
    otherwise (subst Q all (subst P is first)) reads

-- the lines of it, where it is appended
pub refused_told : (k : RecordKind) (made : Result Lines AllocError) (entries : List EntryOf) (said : Status) (lines : List ℕ) → k ≡ kind.Entry
    → IfOk made (λ l. (l.status ≡ status.Refused) × PrintsUnwritten entries (string_bytes l.text))
    → IsOkAnd made (λ l. (said ≡ l.status) × (lines ≡ string_bytes l.text)) ⊎ IsSilent said lines
    → ((k ≡ kind.Entry) × (said ≡ status.Refused) × PrintsUnwritten entries lines) ⊎ IsSilent said lines
refused_told k made entries said lines is reads (inr silent) = inr silent
refused_told k (Err e) entries said lines is reads (inl p) = absurd p
refused_told k (Ok l) entries said lines is reads (inl p) =
    let P : List ℕ → Type 0 = λ t. PrintsUnwritten entries t in
    inl (is, p.0 ∙ reads.0, subst P (sym p.1) reads.1)

-- ---- what is made

pub nothing_appended : (old new : List ℕ) → new ≡ old → appended_bytes old new ≡ []
nothing_appended old new e = since old [] new (e ∙ sym (append-nil old))

-- all was appended where that was no error
pub appended_whole : {T E : Type 0} (r : Result T E) (failed : Bool) (old new x : List ℕ) → new ≡ (if is_ok r then old ++ x else old) → failed ≡ is_err r → failed ≡ false
    → appended_bytes old new ≡ x
appended_whole (Ok u) failed old new x e is none = since old x new e
appended_whole (Err u) failed old new x e is none = absurd cc

-- the declaration that was appended
appended_declaration : (old new : List ℕ) (declared : DeclarationOf) → Appends (IsWrittenDeclaration declared) old new → IsDeclaration (appended_bytes old new) declared
appended_declaration old new declared a =
    let P : List ℕ → Type 0 = λ bytes. IsDeclaration bytes declared in
    subst P (sym (since old a.appended new a.after)) a.is.is

pub left_made : (answer : List ℕ) (left : Left) (text lines old new : List ℕ) → (told : List ℕ) × PrintsLeft left told × (text ≡ answer ++ told) → lines ≡ text
    → Appends (IsWrittenDeclaration (declaration_of left.declaration)) old new → TellsLeft answer left status.Done lines (appended_bytes old new)
left_made answer left text lines old new told same a =
    made_whole refl told.0 told.1 (same ∙ told.2) (appended_declaration old new (declaration_of left.declaration) a)

-- no bytes are the declaration that was refused as an entry
no_bytes : (declared : DeclarationOf) (f : RecordFault) → Unwritten (λ bytes. IsDeclaration bytes declared) f → f.kind ≡ kind.Entry
    → (bytes : List ℕ) → ¬ (IsDeclaration bytes declared)
no_bytes declared f (no_memory is) entry = let clash : kind.Memory ≡ kind.Entry = sym is ∙ entry in absurd cc
no_bytes declared f (no_file at is none) entry = none

pub left_refused : (answer : List ℕ) (left : Left) (f : RecordFault) (said : Status) (lines made : List ℕ) → Unwritten (λ bytes. IsDeclaration bytes (declaration_of left.declaration)) f
    → ((f.kind ≡ kind.Entry) × (said ≡ status.Refused) × PrintsUnwritten (declaration_of left.declaration).entries lines) ⊎ IsSilent said lines
    → made ≡ [] → TellsLeft answer left said lines made ⊎ (IsSilent said lines × (made ≡ []))
left_refused answer left f said lines made u (inl p) nothing = inl (not_made p.1 (no_bytes (declaration_of left.declaration) f u p.0) p.2 nothing)
left_refused answer left f said lines made u (inr silent) nothing = inr (silent, nothing)

-- ---- what is told of a verdict

-- the lines of a yes
pub yes_told : (marks : List MarkOf) (declared : DeclarationOf) (turns : List TurnOf) (tally : Option Tally) (made : Result (String Global) AllocError) → TalliesRecorded marks declared turns tally
    → IfOk made (λ text. string_bytes text ≡ yes_text tally)
    → IfOk made (λ text. (tally : Option Tally) × TalliesRecorded marks declared turns tally × (string_bytes text ≡ yes_text tally))
yes_told marks declared turns tally (Ok text) told e = (tally, told, e)
yes_told marks declared turns tally (Err f) told e = tt

-- where something is left
pub some_told : (marks : List MarkOf) (declared : DeclarationOf) (turns : List TurnOf) (v : Verdict) (handed : Option Left) (left : Left) (tally : Option Tally) (answer : List ℕ) (said : Status) (lines made : List ℕ)
    → handed ≡ Some left → TalliesRecorded marks declared turns tally → answer ≡ yes_text tally
    → TellsLeft answer left said lines made ⊎ (IsSilent said lines × (made ≡ [])) → TellsChecked marks declared turns v handed said lines made ⊎ (IsSilent said lines × (made ≡ []))
some_told marks declared turns v handed left tally answer said lines made is tallied reads tells =
    let P : Option Left → Type 0 = λ o. TellsChecked marks declared turns v o said lines made ⊎ (IsSilent said lines × (made ≡ [])) in
    let Q : List ℕ → Type 0 = λ a. TellsLeft a left said lines made ⊎ (IsSilent said lines × (made ≡ [])) in
    subst P (sym is) (by (subst Q reads tells))
  where
    by : TellsLeft (yes_text tally) left said lines made ⊎ (IsSilent said lines × (made ≡ [])) → TellsChecked marks declared turns v (Some left) said lines made ⊎ (IsSilent said lines × (made ≡ []))
    by (inl told) = inl (tally, tallied, told)
    by (inr silent) = inr silent

-- ---- status 0

-- what is said of what is handed out
pub handed_out : (v : Verdict) (handed : Option Left) (left : Left) (P : Left → Type 0) → handed ≡ Some left → LeavesAtYes v handed P → P left
handed_out verdict.Yes (Some other) left P e h = let same : other ≡ left = cc in subst P same h
handed_out verdict.Yes None left P e h = absurd h
handed_out (verdict.No refused) (Some other) left P e h = absurd h
handed_out (verdict.No refused) None left P e h = absurd cc

-- something is handed out at a yes
pub handed_at_yes : (v : Verdict) (handed : Option Left) (left : Left) (P : Left → Type 0) → handed ≡ Some left → LeavesAtYes v handed P → v ≡ verdict.Yes
handed_at_yes verdict.Yes handed left P e h = refl
handed_at_yes (verdict.No refused) (Some other) left P e h = absurd h
handed_at_yes (verdict.No refused) None left P e h = absurd cc

pub yes_hands_out : (v : Verdict) (handed : Option Left) (P : Left → Type 0) → v ≡ verdict.Yes → handed ≡ None → LeavesAtYes v handed P → ⊥
yes_hands_out verdict.Yes None P e f h = h
yes_hands_out verdict.Yes (Some left) P e f h = absurd cc
yes_hands_out (verdict.No refused) handed P e f h = absurd cc

lead_of : (segment : Segment) (t d w : List ℕ) (moment : Option ℤ) → AreChecked segment t d w moment → (left : Left) → segment.checked.left ≡ Some left
    → Lead t d w moment (declaration_of left.declaration)
lead_of segment t d w moment a left handed =
    let H : Left → Type 0 = λ (l : Left). RecordsLead segment.records moment l in
    let P : Verdict → Type 0 =
    λ v. ChecksSince (transcript_of segment.records.transcript) (declaration_of segment.records.declaration) moment (witness_of segment.records.witness) (Ok v) in
    record {
      marks = transcript_of segment.records.transcript;
      transcript = a.records.transcript;
      declared = declaration_of segment.records.declaration;
      declaration = a.records.declaration;
      turns = witness_of segment.records.witness;
      witness = a.records.witness;
      accepted = subst P (handed_at_yes segment.checked.verdict segment.checked.left left H handed a.leads) a.verdict;
      until = left.until;
      leads = handed_out segment.checked.verdict segment.checked.left left H handed a.leads;
    }

pub made_of : (answer : List ℕ) (left : Left) (said : Status) (lines made : List ℕ) → said ≡ status.Done → TellsLeft answer left said lines made
    → IsDeclaration made (declaration_of left.declaration)
made_of answer left said lines made done (made_whole e told prints reads written) = written
made_of answer left said lines made done (not_made e none prints nothing) =
    let clash : status.Refused ≡ status.Done = sym e ∙ done in absurd cc

none_handed : (segment : Segment) (t d w : List ℕ) (moment : Option ℤ) (said : Status) (lines : List ℕ) → AreChecked segment t d w moment → segment.checked.left ≡ None
    → PrintsVerdict (transcript_of segment.records.transcript) (declaration_of segment.records.declaration) (witness_of segment.records.witness) segment.checked.verdict said lines → said ≡ status.Done → ⊥
none_handed segment t d w moment said lines a none prints done =
    yes_hands_out segment.checked.verdict segment.checked.left (λ (l : Left). RecordsLead segment.records moment l)
    (done_is_yes (transcript_of segment.records.transcript) (declaration_of segment.records.declaration) (witness_of segment.records.witness) segment.checked.verdict said lines (inl prints) done) none a.leads

leads_at : (leaves : Bool) (segment : Segment) (t d w : List ℕ) (moment : Option ℤ) (said : Status) (lines made : List ℕ) → AreChecked segment t d w moment → said ≡ status.Done
    → (handed : Option Left) → segment.checked.left ≡ handed
    → TellsChecked (transcript_of segment.records.transcript) (declaration_of segment.records.declaration) (witness_of segment.records.witness) segment.checked.verdict (if_asked leaves handed) said lines made
    → LeadsAsAsked leaves t d w moment made
leads_at true segment t d w moment said lines made a done (Some left) e tells =
    (declaration_of left.declaration, lead_of segment t d w moment a left e, made_of _ left said lines made done tells.2)
leads_at false segment t d w moment said lines made a done (Some left) e tells = (declaration_of left.declaration, lead_of segment t d w moment a left e, tells.1)
leads_at true segment t d w moment said lines made a done None e tells = absurd (none_handed segment t d w moment said lines a e tells.0 done)
leads_at false segment t d w moment said lines made a done None e tells = absurd (none_handed segment t d w moment said lines a e tells.0 done)

-- status 0 is reported where the turns lead to a declaration, and it is made where it is asked for
pub done_leads : (leaves : Bool) (segment : Segment) (t d w : List ℕ) (moment : Option ℤ) (said : Status) (lines made : List ℕ) → AreChecked segment t d w moment
    → TellsSegment leaves segment said lines made ⊎ (IsSilent said lines × (made ≡ [])) → said ≡ status.Done → LeadsAsAsked leaves t d w moment made
done_leads leaves segment t d w moment said lines made a (inr p) done = let clash : status.Failed ≡ status.Done = sym p.0.0 ∙ done in absurd cc
done_leads leaves segment t d w moment said lines made a (inl p) done = leads_at leaves segment t d w moment said lines made a done segment.checked.left refl p
