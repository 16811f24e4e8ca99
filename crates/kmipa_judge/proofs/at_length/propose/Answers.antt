use Rattle.std.proofs.Common.{ℕ, Option, subst}
use Rattle.std.specs.Prelude.{IfSome}
use Rattle.kmipa_record.specs.Declarations.{declaration_of}
use Rattle.kmipa_record.specs.Transcripts.{transcript_of}
use Rattle.kmipa_findings.specs.Outcomes.{Judges}
use Rattle.kmipa_findings.specs.declared.finding.Outcome.{Outcome}
use Rattle.kmipa_judge.proofs.at_length.propose.Goals as goal

pub returns-in-Some : goal.returns-in-Some
returns-in-Some g c = λ recorded.
    let marks = transcript_of c.args.transcript.now in
    let declared = declaration_of c.args.declaration.now in
    let O : Option Outcome → Type 0 = λ o. IfSome o (λ outcome. (seconds : ℕ) → Judges seconds marks declared outcome) in
    c.order_of.ensures 0 marks declared (subst O c.in-Some.is (c.in_ok-outcome.ensures recorded) 0)
