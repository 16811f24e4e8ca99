-- Statuses of faults, and what is printed of verdicts.
use Rattle.std.proofs.Common.{◌≡◌, ◌≢◌, ◌⊎◌, inl, inr, ℕ, ◌==◌, Bool, true, false, if◌then◌else◌, List, Result, Ok, Err, refl, sym, ap, ◌∙◌, subst}
use Rattle.std.specs.Prelude.{IfOk, IsOkAnd, string_bytes}
use Rattle.std.specs.declared.alloc.AllocError.{AllocError}
use Rattle.std.proofs.lemmas.Bool.{eqb-true}
use Rattle.kmipa_ttlv.specs.Input.{came_of, is_ended, is_failed, IsFileOf}
use Rattle.kmipa_ttlv.specs.declared.input.Input.{Input}
use Rattle.kmipa_record.specs.declared.fault.RecordKind.{RecordKind}
use Rattle.kmipa_record.specs.declared.fault.RecordKind.TheVariants.{Ttlv, Header, Number, EndWithoutBegin, SecondEnd, Identifier, Entry, Calls, Device, Memory, Seal, NoClose, Order}
use Rattle.kmipa_check.specs.declared.auditing.AuditFault.{AuditFault}
use Rattle.kmipa_check.specs.declared.auditing.AuditFault.TheVariants as audit
use Rattle.kmipa_check.specs.declared.fault.CheckFault.TheVariants as check
use Rattle.kmipa_runs.specs.Lines.{PrintsFault, fault_status, record_status}
use Rattle.kmipa_jobs.specs.Statuses.{IsSilent}
use Rattle.kmipa_runs.specs.declared.lines.Lines.{Lines}
use Rattle.kmipa_jobs.specs.declared.status.Status.{Status}
use Rattle.kmipa_jobs.specs.declared.status.Status.TheVariants as status
use Rattle.kmipa_trail.specs.Tallies.{TallyOf}
use Rattle.kmipa_trail.specs.Told.{tally_of}
use Rattle.kmipa_trail.specs.declared.verdict.Verdict.{Verdict}
use Rattle.kmipa_trail.specs.declared.verdict.Verdict.TheVariants.{Yes, No}
use Rattle.kmipa_beside.specs.Audits.{AreAcceptedBeside, AreAcceptedInSight, AreJudgedBeside, AreJudgedInSight}
use Rattle.kmipa_beside.specs.Lines.{PrintsInSight, PrintsVerdict, yes_status}

-- a status without a verdict
abbrev EndsSo : Status → Type 0
EndsSo status.Refused = Unit {0}
EndsSo status.Failed = Unit {0}
EndsSo other = ⊥

record_ends : (kind : RecordKind) → EndsSo (record_status kind)
record_ends (Ttlv flaw) = tt
record_ends Header = tt
record_ends Number = tt
record_ends EndWithoutBegin = tt
record_ends SecondEnd = tt
record_ends Identifier = tt
record_ends Entry = tt
record_ends Calls = tt
record_ends Device = tt
record_ends Memory = tt
record_ends Seal = tt
record_ends NoClose = tt
record_ends Order = tt

fault_ends : (fault : AuditFault) → EndsSo (fault_status fault)
fault_ends (audit.Transcript f) = record_ends f.kind
fault_ends (audit.Declaration f) = record_ends f.kind
fault_ends (audit.Witness f) = record_ends f.kind
fault_ends (audit.Check (check.Outside call side outside)) = tt
fault_ends (audit.Check (check.Witness f)) = tt
fault_ends (audit.Check check.Memory) = tt

told_ends : (fault : AuditFault) (said : Status) (lines : List ℕ) → PrintsFault fault said lines ⊎ IsSilent said lines → EndsSo said
told_ends fault said lines (inl p) = subst EndsSo (sym p.0) (fault_ends fault)
told_ends fault said lines (inr p) = subst EndsSo (sym p.0) tt

pub never_done : (fault : AuditFault) (said : Status) (lines : List ℕ) → PrintsFault fault said lines ⊎ IsSilent said lines → said ≡ status.Done → ⊥
never_done fault said lines told done = subst EndsSo done (told_ends fault said lines told)

pub never_no : (fault : AuditFault) (said : Status) (lines : List ℕ) → PrintsFault fault said lines ⊎ IsSilent said lines → said ≡ status.No → ⊥
never_no fault said lines told is = subst EndsSo is (told_ends fault said lines told)

-- ---- a verdict

-- whatever the lines of a verdict are to be
pub verdict_printed : (Prints : Verdict → Status → List ℕ → Type 0) (made : Result Lines AllocError) (v : Verdict) (said : Status) (lines : List ℕ)
    → IfOk made (λ l. Prints v l.status (string_bytes l.text)) → IsOkAnd made (λ l. (said ≡ l.status) × (lines ≡ string_bytes l.text)) ⊎ IsSilent said lines
    → Prints v said lines ⊎ IsSilent said lines
verdict_printed Prints made v said lines reported (inr silent) = inr silent
verdict_printed Prints (Ok l) v said lines reported (inl p) =
    let P : Status → Type 0 = λ s. Prints v s lines in
    let Q : List ℕ → Type 0 = λ t. Prints v l.status t in
    inl (subst P (sym p.0) (subst Q (sym p.1) reported))
verdict_printed Prints (Err e) v said lines reported (inl p) = absurd p

-- status 0 is that of a yes by which nothing is set aside by the witness alone
pub done_alone : (k : TallyOf) → yes_status k ≡ status.Done → k.excepted ≡ 0
done_alone k done = by (k.excepted == 0) refl done
  where
    by : (t : Bool) → k.excepted == 0 ≡ t → (if t then status.Done else status.No) ≡ status.Done → k.excepted ≡ 0
    by true is e = eqb-true k.excepted 0 is
    by false is e = let clash : status.No ≡ status.Done = e in absurd cc

accepts_yes : (t d w : List ℕ) (v : Verdict) (said : Status) (lines : List ℕ) → AreJudgedBeside t d w v → PrintsVerdict v said lines ⊎ IsSilent said lines → said ≡ status.Done
    → (tally : TallyOf) × (tally.excepted ≡ 0) × AreAcceptedBeside t d w tally
accepts_yes t d w v said lines j (inr silent) done = let clash : status.Failed ≡ status.Done = sym silent.0 ∙ done in absurd cc
accepts_yes t d w (No r stamp) said lines j (inl p) done = let clash : status.No ≡ status.Done = sym p.0 ∙ done in absurd cc
accepts_yes t d w (Yes tally) said lines j (inl p) done = (
  tally_of tally,
  done_alone (tally_of tally) (sym p.0 ∙ done),
  record { marks = j.marks; transcript = j.transcript; declared = j.declared; declaration = j.declaration; turns = j.turns; witness = j.witness; accepted = j.told },
)

pub accepts_done : (t d w : List ℕ) (v : Verdict) (said : Status) (lines : List ℕ) → AreJudgedBeside t d w v → PrintsVerdict v said lines ⊎ IsSilent said lines → said ≡ status.Done
    → (tally : TallyOf) × (tally.excepted ≡ 0) × AreAcceptedBeside t d w tally
accepts_done = accepts_yes

-- where nothing is set aside, it is that of each yes
pub accepts_sighted : (t d w : List ℕ) (v : Verdict) (said : Status) (lines : List ℕ) → AreJudgedInSight t d w v → PrintsInSight v said lines ⊎ IsSilent said lines → said ≡ status.Done
    → AreAcceptedInSight t d w
accepts_sighted t d w v said lines j (inr silent) done = let clash : status.Failed ≡ status.Done = sym silent.0 ∙ done in absurd cc
accepts_sighted t d w (No r stamp) said lines j (inl p) done = let clash : status.No ≡ status.Done = sym p.0 ∙ done in absurd cc
accepts_sighted t d w (Yes tally) said lines j (inl p) done =
    record { marks = j.marks; transcript = j.transcript; declared = j.declared; declaration = j.declaration; turns = j.turns; witness = j.witness; accepted = j.told }
