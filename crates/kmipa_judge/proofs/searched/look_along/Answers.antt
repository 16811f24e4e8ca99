use Rattle.std.proofs.Common.{ℕ, IfSome, Option, subst}
use Rattle.kmipa_record.specs.Declarations.{declaration_of}
use Rattle.kmipa_record.specs.Transcripts.{transcript_of}
use Rattle.kmipa_findings.specs.Outcomes.{Judges}
use Rattle.kmipa_findings.specs.declared.finding.Outcome.{Outcome}
use Rattle.kmipa_judge.proofs.searched.look_along.Goals as goal

pub returns-in-Some : goal.returns-in-Some
returns-in-Some c =
    let marks = transcript_of c.args.transcript.now in
    let declared = declaration_of c.args.declaration.now in
    let P : Option Outcome → Type 0 = λ found. IfSome found (λ o. (seconds : ℕ) → Judges seconds marks declared o) in
    λ recorded. subst P c.in-Some.is (c.in_ok-outcome.ensures recorded)
