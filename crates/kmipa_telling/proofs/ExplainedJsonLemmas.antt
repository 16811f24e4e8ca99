-- What is told in JSON of a check that says what its no means.
use Rattle.std.proofs.Common.{◌≡◌, ◌⊎◌, inl, inr, List, ℕ, Option, Result, Ok, Err, refl, sym, ◌∙◌}
use Rattle.kmipa_ttlv.specs.Input.{came_of}
use Rattle.kmipa_ttlv.specs.declared.input.Input.{Input}
use Rattle.kmipa_ttlv.proofs.ReadLemmas.{itself}
use Rattle.kmipa_record.specs.Marks.{MarkOf}
use Rattle.kmipa_record.specs.Declarations.{DeclarationOf, declaration_of}
use Rattle.kmipa_record.specs.Transcripts.{transcript_of}
use Rattle.kmipa_record.specs.Witnesses.{TurnOf, witness_of}
use Rattle.kmipa_check.specs.Audits.{AreAccepted}
use Rattle.kmipa_check.specs.declared.auditing.AuditFault.{AuditFault}
use Rattle.kmipa_check.specs.declared.auditing.AuditFault.TheVariants as audit
use Rattle.kmipa_check.specs.declared.verdict.Verdict.{Verdict}
use Rattle.kmipa_check.specs.declared.verdict.Verdict.TheVariants as verdict
use Rattle.kmipa_jobs.specs.Statuses.{IsSilent}
use Rattle.kmipa_jobs.specs.declared.status.Status.{Status}
use Rattle.kmipa_jobs.specs.declared.status.Status.TheVariants as status
use Rattle.kmipa_telling.specs.ExplainedJson.{ExplainsInputs, PrintsExplainedJson}
use Rattle.kmipa_telling.specs.Judging.{AreEnded, WhereRead}
use Rattle.kmipa_telling.specs.Telling.{TellsVerdict}
use Rattle.kmipa_telling.specs.declared.explained.Explained.{Explained}
use Rattle.kmipa_telling.specs.declared.meaning.FaultTold.{FaultTold}
use Rattle.kmipa_telling.proofs.ExplainingLemmas.{yes_explained}
use Rattle.kmipa_telling.proofs.JsonLemmas.{fault_not_done, silent_not_done}
use Rattle.serde_json.specs.Data.{Members}

-- ---- the inputs

-- a fact stands where it has to
pub where_ended : {T : Type 0} (r : Result T AuditFault) (fact : Type 0) → fact → WhereRead r fact
where_ended (Ok x) fact holds = holds
where_ended (Err (audit.Transcript f)) fact holds = tt
where_ended (Err (audit.Declaration f)) fact holds = tt
where_ended (Err (audit.Witness f)) fact holds = tt
where_ended (Err (audit.Check f)) fact holds = holds

-- ---- status 0

told_yes : (marks : List MarkOf) (declared : DeclarationOf) (turns : List TurnOf) (v : Verdict) (said : Status) (before after : Members) → TellsVerdict marks declared turns v said before after
    → said ≡ status.Done → v ≡ verdict.Yes
told_yes marks declared turns verdict.Yes said before after tells done = refl
told_yes marks declared turns (verdict.No r) said before after tells done = let clash : status.No ≡ status.Done = sym tells.0 ∙ done in absurd cc

-- what is printed of what a check with explanations answers
abbrev pub ToldCheck : {R : Type 0} → Option ℕ → Input R → Input R → Input R → Status → List ℕ → Type 0
ToldCheck torn t d w said lines = (outcome : Result Explained FaultTold) × ExplainsInputs t d w outcome × PrintsExplainedJson torn t d w outcome said lines

explained_done : {R : Type 0} (torn : Option ℕ) (t d w : Input R) (outcome : Result Explained FaultTold) (said : Status) (lines : List ℕ) → ExplainsInputs t d w outcome
    → PrintsExplainedJson torn t d w outcome said lines → said ≡ status.Done → AreAccepted (came_of t) (came_of d) (came_of w) × AreEnded t d w
explained_done torn t d w (Ok explained) said lines audits (known, told, knows, (verdict, tells, more), is) done =
    let yes = told_yes (transcript_of explained.records.transcript) (declaration_of explained.records.declaration) (witness_of explained.records.witness) explained.verdict said _ verdict tells done in (
      yes_explained (came_of t) (came_of d) (came_of w) explained explained.verdict refl yes
          (audits.0 (came_of t) (came_of d) (came_of w) (itself t) (itself d) (itself w)),
      audits.1,
    )
explained_done torn t d w (Err fault) said lines audits (known, told, knows, (without, tells, more), is) done = absurd (fault_not_done fault.fault (sym tells.0 ∙ done))

pub done_is_explained : {R : Type 0} (torn : Option ℕ) (t d w : Input R) (said : Status) (lines : List ℕ) → ToldCheck torn t d w said lines ⊎ IsSilent said lines
    → said ≡ status.Done → AreAccepted (came_of t) (came_of d) (came_of w) × AreEnded t d w
done_is_explained torn t d w said lines (inl told) done = explained_done torn t d w told.0 said lines told.1 told.2 done
done_is_explained torn t d w said lines (inr silent) done = absurd (silent_not_done said lines silent done)
