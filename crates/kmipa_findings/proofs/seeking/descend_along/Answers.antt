use Rattle.std.proofs.Common.{◌∙◌, List, map, sym, ap, subst}
use Rattle.kmipa_record.specs.Declarations.{declaration_of}
use Rattle.kmipa_record.specs.Transcripts.{transcript_of}
use Rattle.kmipa_turns.specs.Recorded.{recorded_of}
use Rattle.kmipa_turns.specs.declared.recorded.Recorded.{Recorded}
use Rattle.kmipa_findings.specs.Choices.{HaveEnded}
use Rattle.kmipa_findings.proofs.StandLemmas.{if_ok}
use Rattle.kmipa_findings.proofs.TriedLemmas.{ends_plainly}
use Rattle.kmipa_findings.proofs.seeking.descend_along.Goals as goal

pub returns-clause-rightly : goal.returns-clause-rightly
returns-clause-rightly g c = λ recorded.
    let marks = transcript_of c.args.transcript.now in
    let declared = declaration_of c.args.declaration.now in
    let H : List Recorded → Type 0 = λ cs. HaveEnded (map recorded_of cs) in
    if_ok c.descend_by.result
    (λ d r. ends_plainly marks declared (map recorded_of c.in_ok-recorded.recorded.items) (map recorded_of c.deref-3.result.now) recorded (c.in_ok-recorded.ensures.recorded recorded)
    (λ ended. ap (map recorded_of) (c.deref-3.ensures.value ∙ c.in_ok-calls.ensures (subst H (sym c.deref.ensures.value) ended) ∙ c.deref.ensures.value)) d.end (r marks recorded))
    c.descend_by.ensures.rightly
