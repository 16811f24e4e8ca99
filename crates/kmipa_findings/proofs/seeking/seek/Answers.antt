use Rattle.std.proofs.Common.{inl, inr, subst}
use Rattle.kmipa_record.specs.Declarations.{declaration_of}
use Rattle.kmipa_record.specs.Transcripts.{transcript_of}
use Rattle.kmipa_findings.specs.Exhausting.{EndsPlainly}
use Rattle.kmipa_findings.specs.declared.descending.End.{End}
use Rattle.kmipa_findings.proofs.seeking.seek.Goals as goal

pub returns-in-Whole-clause-sought : goal.returns-in-Whole-clause-sought
returns-in-Whole-clause-sought g c = λ recorded.
    let E : End → Type 0 = λ e. EndsPlainly (transcript_of c.args.transcript.now) (declaration_of c.args.declaration.now) e in
    let plainly = subst E c.in-Whole.is (c.in_ok-end.ensures.rightly recorded) in
    c.confirmed.ensures (g.P.Pace.seconds c.args.pace.now) c.args.budget c.in_ok-end.ensures.within recorded (
      c.steps_refused-refused.ensures.within c.in_ok-end.ensures.within,
      λ below. elim (c.steps_refused-refused.ensures.below below) [ inl guessed ↦ plainly guessed | inr hides ↦ λ plain nothing seen. absurd (hides seen) ],
    )

pub returns-in-Exhausted-clause-sought : goal.returns-in-Exhausted-clause-sought
returns-in-Exhausted-clause-sought g c = λ recorded.
    let E : End → Type 0 = λ e. EndsPlainly (transcript_of c.args.transcript.now) (declaration_of c.args.declaration.now) e in
    (c.in_ok-end.ensures.within, λ below. subst E c.in-Exhausted.is (c.in_ok-end.ensures.rightly recorded))
