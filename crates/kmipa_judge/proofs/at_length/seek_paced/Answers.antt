use Rattle.std.proofs.Common.{ℕ, subst}
use Rattle.std.specs.Prelude.{IfOk}
use Rattle.kmipa_record.specs.Declarations.{declaration_of}
use Rattle.kmipa_record.specs.Transcripts.{transcript_of}
use Rattle.kmipa_findings.specs.Seeking.{Seeks}
use Rattle.kmipa_findings.specs.declared.seeking.Sought.{Sought}
use Rattle.kmipa_judge.proofs.at_length.seek_paced.Goals as goal

pub returns-in-GaveUp : goal.returns-in-GaveUp
returns-in-GaveUp g c = λ recorded.
    let marks = transcript_of c.args.transcript.now in
    let declared = declaration_of c.args.declaration.now in
    let S : Sought → Type 0 = λ o. Seeks (g.P.Pace.seconds c.args.pace.now) c.first_budget-first.result marks declared o in
    let N : ℕ → Type 0 = λ n. IfOk c.go_on.result (Seeks n c.args.words.budget marks declared) in
    subst N c.seek.ensures.paced (c.go_on.ensures c.first_budget-first.ensures recorded (subst S c.in-GaveUp.is (c.in_ok-order.ensures.sought recorded)))
