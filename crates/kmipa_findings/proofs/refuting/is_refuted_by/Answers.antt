use Rattle.kmipa_record.specs.Declarations.{declaration_of}
use Rattle.kmipa_record.specs.Transcripts.{transcript_of}
use Rattle.kmipa_findings.proofs.StandLemmas.{if_ok}
use Rattle.kmipa_findings.proofs.refuting.is_refuted_by.Goals as goal

pub returns : goal.returns
returns c = λ seconds recorded seeks.
    let marks = transcript_of c.args.transcript.now in
    let declared = declaration_of c.args.declaration.now in
    if_ok c.can_decide.result (λ b can yes. let p = can yes in c.has_decided.ensures seconds marks declared seeks c.if-not-has_decided.false p.0 p.1 p.2) (c.can_decide.ensures recorded)
