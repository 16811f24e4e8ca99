-- The date after a no.
use Rattle.std.proofs.Common.{◌≡◌, ◌⊎◌, ◌↔◌, inl, inr, ℕ, ℤ, List, [], ◌∷◌, ◌++◌, codes, Option, Ok, Err, Result, length, take, refl, sym, ap, ◌∙◌, subst, arith}
use Rattle.std.specs.Prelude.{IfOk, string_bytes}
use Rattle.std.specs.Io.{StartsWith}
use Rattle.std.specs.declared.alloc.AllocError.{AllocError}
use Rattle.kmipa_record.specs.Declarations.{DeclarationOf}
use Rattle.kmipa_record.specs.Marks.{MarkOf}
use Rattle.kmipa_record.specs.Witnesses.{TurnOf}
use Rattle.kmipa_record.specs.declared.fault.RecordKind.{RecordKind}
use Rattle.kmipa_record.specs.declared.fault.RecordKind.TheVariants.{Ttlv, Device, Memory}
use Rattle.kmipa_check.specs.Stamps.{TellsStamp}
use Rattle.kmipa_check.specs.declared.auditing.AuditFault.{AuditFault}
use Rattle.kmipa_check.specs.declared.auditing.AuditFault.TheVariants as audit
use Rattle.kmipa_check.specs.declared.fault.CheckFault.TheVariants as check
use Rattle.kmipa_check.specs.declared.verdict.Refused.{Refused}
use Rattle.kmipa_check.specs.declared.verdict.Verdict.{Verdict}
use Rattle.kmipa_check.specs.declared.verdict.Verdict.TheVariants as verdict
use Rattle.kmipa_stream.specs.Counting.{HaveTally}
use Rattle.kmipa_stream.specs.Streams.{TellsDate}
use Rattle.kmipa_stream.specs.declared.tally.Tally.{Tally}
use Rattle.kmipa_jobs.specs.Statuses.{IsSilent}
use Rattle.kmipa_runs.specs.Lines.{AreYesLines, FitsStatus, IsDated, PrintsDate, PrintsFault, PrintsOutcome, PrintsStamped, PrintsVerdict, TalliesRecorded, device_line, fault_status, fault_text, no_line, record_status, record_text, tally_text, yes_line}
use Rattle.kmipa_runs.specs.declared.lines.Lines.{Lines}
use Rattle.kmipa_jobs.specs.declared.status.Status.{Status}
use Rattle.kmipa_jobs.specs.declared.status.Status.TheVariants as status

-- ---- a verdict and a moment

-- what is printed of a no
pub no_stamped : (v : Verdict) (refused : Refused) (stamp : Option ℤ) (tally : Option Tally) (text first dated : List ℕ) → v ≡ verdict.No refused → PrintsDate stamp dated → first ≡ no_line refused → text ≡ first ++ dated
    → PrintsStamped v stamp tally status.No text
no_stamped v refused stamp tally text first dated is date e f =
    let P : Verdict → Type 0 = λ x. PrintsStamped x stamp tally status.No text in
    subst P (sym is) (refl, (dated, date, f ∙ ap (λ (l : List ℕ). l ++ dated) e))

-- of a yes the moment says nothing
pub yes_reported : (marks : List MarkOf) (declared : DeclarationOf) (turns : List TurnOf) (v : Verdict) (stamp : Option ℤ) (tally : Option Tally) (made : Result Lines AllocError) → v ≡ verdict.Yes
    → TalliesRecorded marks declared turns tally → IfOk made (λ l. PrintsStamped v stamp tally l.status (string_bytes l.text)) → IfOk made (λ l. PrintsVerdict marks declared turns v l.status (string_bytes l.text))
yes_reported marks declared turns verdict.Yes stamp tally (Ok l) is told p = (p.0, (tally, told, p.1))
yes_reported marks declared turns (verdict.No refused) stamp tally (Ok l) is told p = absurd cc
yes_reported marks declared turns v stamp tally (Err e) is told p = tt

-- and of a no it is that at which its call was answered
pub no_reported : (marks : List MarkOf) (declared : DeclarationOf) (turns : List TurnOf) (v : Verdict) (refused : Refused) (number : ℤ) (stamp : Option ℤ) (tally : Option Tally) (made : Result Lines AllocError) → v ≡ verdict.No refused → number ≡ refused.call
    → TellsStamp marks turns number stamp → IfOk made (λ l. PrintsStamped v stamp tally l.status (string_bytes l.text)) → IfOk made (λ l. PrintsVerdict marks declared turns v l.status (string_bytes l.text))
no_reported marks declared turns v refused number stamp tally (Ok l) is same reported p =
    let P : Verdict → Type 0 = λ x. PrintsStamped x stamp tally l.status (string_bytes l.text) in
    let Q : Verdict → Type 0 = λ x. PrintsVerdict marks declared turns x l.status (string_bytes l.text) in
    let S : ℤ → Type 0 = λ n. TellsStamp marks turns n stamp in
    let q = subst P is p in
    subst Q (sym is) (q.0, (stamp, subst S same reported, (q.1.0, q.1.1, q.1.2)))
no_reported marks declared turns v refused number stamp tally (Err e) is same reported p = tt

-- ---- an audit

told_at : (t d w : List ℕ) (v : Verdict) (stamp : Option ℤ) (tally : Option Tally) (said : Status) (lines : List ℕ) → TellsDate t w v stamp → (v ≡ verdict.Yes → HaveTally t d w tally) → PrintsStamped v stamp tally said lines
    → PrintsOutcome t d w (Ok v) said lines
told_at t d w verdict.Yes stamp tally said lines dated told p = (p.0, (tally, told refl, p.1))
told_at t d w (verdict.No refused) stamp tally said lines dated told p =
    let P : Option ℤ → Type 0 = λ s. PrintsDate s p.1.0 in
    (p.0, (dated.0, dated.2, (p.1.0, subst P dated.1 p.1.1, p.1.2)))

-- what is printed of a verdict that comes with its moment, or with what became of the items
pub judged_told : (t d w : List ℕ) (v : Verdict) (stamp : Option ℤ) (tally : Option Tally) (said : Status) (lines : List ℕ) → TellsDate t w v stamp → (v ≡ verdict.Yes → HaveTally t d w tally)
    → PrintsStamped v stamp tally said lines ⊎ IsSilent said lines → PrintsOutcome t d w (Ok v) said lines ⊎ IsSilent said lines
judged_told t d w v stamp tally said lines dated told (inl p) = inl (told_at t d w v stamp tally said lines dated told p)
judged_told t d w v stamp tally said lines dated told (inr silent) = inr silent

-- after a no of an audit stands its date
pub outcome_dated : (t d w : List ℕ) (v : Verdict) (said : Status) (lines : List ℕ) → PrintsOutcome t d w (Ok v) said lines ⊎ IsSilent said lines → said ≡ status.No → IsDated lines t d w
outcome_dated t d w v said lines (inr silent) e = let clash : status.Failed ≡ status.No = sym silent.0 ∙ e in absurd cc
outcome_dated t d w verdict.Yes said lines (inl p) e = let clash : status.Done ≡ status.No = sym p.0 ∙ e in absurd cc
outcome_dated t d w (verdict.No refused) said lines (inl p) e = record {
  marks = p.1.1.marks;
  recorded = p.1.1.transcript;
  turns = p.1.1.turns;
  witnessed = p.1.1.witness;
  refused = refused;
  stamp = p.1.0;
  answered = p.1.1.answered;
  dated = p.1.2.0;
  date = p.1.2.1;
  are = p.1.2.2;
}

-- ---- status 0

-- it is reported of a yes alone
pub done_is_yes : (marks : List MarkOf) (declared : DeclarationOf) (turns : List TurnOf) (v : Verdict) (said : Status) (lines : List ℕ) → PrintsVerdict marks declared turns v said lines ⊎ IsSilent said lines → said ≡ status.Done → v ≡ verdict.Yes
done_is_yes marks declared turns verdict.Yes said lines p e = refl
done_is_yes marks declared turns (verdict.No refused) said lines (inl p) e = let clash : status.No ≡ status.Done = sym p.0 ∙ e in absurd cc
done_is_yes marks declared turns (verdict.No refused) said lines (inr p) e = let clash : status.Failed ≡ status.Done = sym p.0 ∙ e in absurd cc

pub stamped_done_is_yes : (v : Verdict) (stamp : Option ℤ) (tally : Option Tally) (said : Status) (lines : List ℕ) → PrintsStamped v stamp tally said lines ⊎ IsSilent said lines → said ≡ status.Done → v ≡ verdict.Yes
stamped_done_is_yes verdict.Yes stamp tally said lines p e = refl
stamped_done_is_yes (verdict.No refused) stamp tally said lines (inl p) e = let clash : status.No ≡ status.Done = sym p.0 ∙ e in absurd cc
stamped_done_is_yes (verdict.No refused) stamp tally said lines (inr p) e = let clash : status.Failed ≡ status.Done = sym p.0 ∙ e in absurd cc

-- ---- what stands on standard output

-- other lines are none that begin so
abbrev first : List ℕ → ℕ
first [] = 0
first (c ∷ cs) = c

-- what begins so doesn't begin by the first byte of a yes
not_of_no : ◌≡◌ {A = ℕ} 121 110 → ⊥
not_of_no e = absurd (omega arith)

not_of_outside : ◌≡◌ {A = ℕ} 121 111 → ⊥
not_of_outside e = absurd (omega arith)

not_of_witness : ◌≡◌ {A = ℕ} 121 119 → ⊥
not_of_witness e = absurd (omega arith)

not_of_malformed : ◌≡◌ {A = ℕ} 121 109 → ⊥
not_of_malformed e = absurd (omega arith)

not_of_device : ◌≡◌ {A = ℕ} 121 100 → ⊥
not_of_device e = absurd (omega arith)

not_of_none : ◌≡◌ {A = ℕ} 121 0 → ⊥
not_of_none e = absurd (omega arith)

begins : (prefix lines : List ℕ) (e : AreYesLines lines) → StartsWith lines prefix → first (take (length prefix) (yes_line ++ tally_text e.0)) ≡ first prefix
begins prefix lines e is = ap first (ap (take (length prefix)) (sym e.1) ∙ is)

-- where the lines of a yes stand the status is 0, and there alone
pub yes_fits : (said : Status) (lines : List ℕ) → FitsStatus said lines → (said ≡ status.Done) ↔ AreYesLines lines
yes_fits status.Done lines fits = (λ e. fits, λ e. refl)
yes_fits status.No lines is = (λ e. absurd cc, λ e. absurd (not_of_no (begins (codes "no: turn ") lines e is)))
yes_fits status.Refused lines (inl is) = (λ e. absurd cc, λ e. absurd (not_of_outside (begins (codes "outside: call ") lines e is)))
yes_fits status.Refused lines (inr (inl is)) = (λ e. absurd cc, λ e. absurd (not_of_witness (begins (codes "witness: at ") lines e is)))
yes_fits status.Refused lines (inr (inr is)) = (λ e. absurd cc, λ e. absurd (not_of_malformed (begins (codes "malformed: ") lines e is)))
yes_fits status.Failed lines (inl is) = (λ e. absurd cc, λ e. absurd (not_of_device (ap first (sym e.1 ∙ is))))
yes_fits status.Failed lines (inr is) = (λ e. absurd cc, λ e. absurd (not_of_none (ap first (sym e.1 ∙ is))))
yes_fits status.GaveUp lines fits = absurd fits
yes_fits status.Usage lines fits = absurd fits

-- nothing stands where memory ran out
pub silent_fits : (said : Status) (lines : List ℕ) → IsSilent said lines → FitsStatus said lines
silent_fits said lines silent =
    let P : Status → Type 0 = λ s. FitsStatus s lines in
    subst P (sym silent.0) (inr silent.1)

-- the lines of a verdict
pub stamped_fits : (v : Verdict) (stamp : Option ℤ) (tally : Option Tally) (said : Status) (lines : List ℕ) → PrintsStamped v stamp tally said lines ⊎ IsSilent said lines → FitsStatus said lines
stamped_fits v stamp tally said lines (inr silent) = silent_fits said lines silent
stamped_fits verdict.Yes stamp tally said lines (inl p) =
    let P : Status → Type 0 = λ s. FitsStatus s lines in
    subst P (sym p.0) (tally, p.1)
stamped_fits (verdict.No refused) stamp tally said lines (inl p) =
    let P : Status → Type 0 = λ s. FitsStatus s lines in
    subst P (sym p.0) (ap (take (length (codes "no: turn "))) p.1.2)

-- the line of a fault of a file
pub record_fits : (file : List ℕ) (offset : ℕ) (kind : RecordKind) → FitsStatus (record_status kind) (record_text file offset kind)
record_fits file offset Device = inl refl
record_fits file offset Memory = inr refl
record_fits file offset (Ttlv flaw) = inr (inr refl)
record_fits file offset _ = inr (inr refl)

fault_fits : (fault : AuditFault) → FitsStatus (fault_status fault) (fault_text fault)
fault_fits (audit.Transcript f) = record_fits (codes "transcript") f.offset f.kind
fault_fits (audit.Declaration f) = record_fits (codes "declaration") f.offset f.kind
fault_fits (audit.Witness f) = record_fits (codes "witness") f.offset f.kind
fault_fits (audit.Check (check.Outside number side x)) = inl refl
fault_fits (audit.Check (check.Witness w)) = inr (inl refl)
fault_fits (audit.Check check.Memory) = inr refl

-- the line of any fault
pub printed_fits : (fault : AuditFault) (said : Status) (lines : List ℕ) → PrintsFault fault said lines ⊎ IsSilent said lines → FitsStatus said lines
printed_fits fault said lines (inr silent) = silent_fits said lines silent
printed_fits fault said lines (inl p) =
    let P : Status → Type 0 = λ s. FitsStatus s lines in
    let Q : List ℕ → Type 0 = λ l. FitsStatus (fault_status fault) l in
    subst P (sym p.0) (subst Q (sym p.1) (fault_fits fault))
