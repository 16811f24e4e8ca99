use Rattle.std.proofs.Common.{ℕ, IfSome, Option, subst}
use Rattle.kmipa_record.specs.Declarations.{declaration_of}
use Rattle.kmipa_record.specs.Transcripts.{transcript_of}
use Rattle.kmipa_findings.specs.Outcomes.{Judges}
use Rattle.kmipa_findings.specs.declared.finding.Outcome.{Outcome}
use Rattle.kmipa_judge.proofs.judging.find_beside.Goals as goal

pub returns-then-findings_of-le1 : goal.returns-then-findings_of-le1
returns-then-findings_of-le1 g c =
    let marks = transcript_of c.args.transcript.now in
    let declared = declaration_of c.args.declaration.now in
    let P : Option Outcome → Type 0 = λ found. IfSome found (λ o. (seconds : ℕ) → Judges seconds marks declared o) in
    record { told = λ recorded. subst P c.in-Some.is (c.in_ok-along.ensures recorded) (g.W.Watch.seconds c.args.paced.now.watch) }

pub returns-else-is_better : goal.returns-else-is_better
returns-else-is_better g c =
    let marks = transcript_of c.args.transcript.now in
    let declared = declaration_of c.args.declaration.now in
    let P : Option Outcome → Type 0 = λ found. IfSome found (λ o. (seconds : ℕ) → Judges seconds marks declared o) in
    record { told = λ recorded. subst P c.in-Some.is (c.in_ok-along.ensures recorded) (g.W.Watch.seconds c.args.paced.now.watch) }
