use Rattle.std.proofs.Common.{ℕ, IfSome, Option, subst}
use Rattle.kmipa_record.specs.Declarations.{declaration_of}
use Rattle.kmipa_record.specs.Transcripts.{transcript_of}
use Rattle.kmipa_findings.specs.Outcomes.{Judges}
use Rattle.kmipa_findings.specs.declared.finding.Outcome.{Outcome}
use Rattle.kmipa_judge.specs.Unexplained.{beside}
use Rattle.kmipa_judge.proofs.UnexplainedLemmas.{comes_to}
use Rattle.kmipa_judge.proofs.deciding.decided_beside.Goals as goal

pub returns-then-not-is_suspected : goal.returns-then-not-is_suspected
returns-then-not-is_suspected g c = λ seconds recorded judges.
    comes_to seconds (transcript_of c.args.transcript.now) (declaration_of c.args.declaration.now) c.args.outcome judges

pub returns-then-branch : goal.returns-then-branch
returns-then-branch g c = λ seconds recorded judges.
    let marks = transcript_of c.args.transcript.now in
    let declared = declaration_of c.args.declaration.now in
    c.convicted.ensures seconds marks declared judges
    (beside (c.in_ok-is_refuted_by.ensures (g.W.Watch.seconds c.args.paced.now.watch) recorded (c.in_ok-sought.ensures.sought recorded) c.if-branch.true))

pub returns-in-Some : goal.returns-in-Some
returns-in-Some g c = λ seconds recorded judges.
    let marks = transcript_of c.args.transcript.now in
    let declared = declaration_of c.args.declaration.now in
    let P : Option Outcome → Type 0 = λ found. IfSome found (λ o. (seconds : ℕ) → Judges seconds marks declared o) in
    comes_to seconds marks declared c.in-Some.found (subst P c.in-Some.is (c.in_ok-found.ensures recorded) seconds)

pub returns-then-branch-2 : goal.returns-then-branch-2
returns-then-branch-2 g c = λ seconds recorded judges.
    c.convicted-then-branch-2.ensures seconds (transcript_of c.args.transcript.now) (declaration_of c.args.declaration.now) judges (c.in_ok-is_refuted_of_one.ensures recorded c.if-branch-2.true)

pub returns : goal.returns
returns g c = λ seconds recorded judges.
    comes_to seconds (transcript_of c.args.transcript.now) (declaration_of c.args.declaration.now) c.args.outcome judges
