use Rattle.std.proofs.Common.{◌≡◌, ℕ, IfSome, Option, sym, subst}
use Rattle.kmipa_record.specs.Declarations.{declaration_of}
use Rattle.kmipa_record.specs.Transcripts.{transcript_of}
use Rattle.kmipa_findings.specs.Outcomes.{Judges}
use Rattle.kmipa_findings.specs.declared.finding.Outcome.{Outcome}
use Rattle.kmipa_findings.proofs.along.judge_along.Goals as goal

pub returns-in-Judged : goal.returns-in-Judged
returns-in-Judged c = λ recorded seconds.
    let marks = transcript_of c.args.transcript.now in
    let declared = declaration_of c.args.declaration.now in
    let J : Outcome → Type 0 = λ o. Judges seconds marks declared o in
    let O : Option ℕ → Type 0 = λ over. IfSome over (λ after. after ≡ seconds) in
    let none : O c.in_ok-proposal.proposal.over = subst O (sym c.in_ok-proposal.ensures) tt in
    subst J c.in-Judged.is (c.in_ok-judged.ensures seconds none recorded)
