use Rattle.std.proofs.Common.{◌≡◌, List, map, Option, sym, ◌∙◌, subst}
use Rattle.std.specs.Prelude.{IfSome}
use Rattle.kmipa_record.specs.Declarations.{declaration_of}
use Rattle.kmipa_record.specs.Transcripts.{transcript_of}
use Rattle.kmipa_record.specs.Witnesses.{turn_of, witness_of}
use Rattle.kmipa_record.specs.declared.witness.Witness.{Witness}
use Rattle.kmipa_trail.specs.Told.{tally_of}
use Rattle.kmipa_trail.specs.Verdicts.{IsAccepted}
use Rattle.kmipa_trail.specs.declared.tally.Tally.{Tally}
use Rattle.kmipa_findings.specs.Findings.{AreFound, left_out}
use Rattle.kmipa_findings.specs.Told.{finding_of}
use Rattle.kmipa_findings.specs.declared.finding.Finding.{Finding}
use Rattle.kmipa_findings.proofs.judging.confirm.Goals as goal

pub returns : goal.returns
returns c = λ seconds over recorded.
    let marks = transcript_of c.args.transcript.now in
    let declared = declaration_of c.args.declaration.now in
    let turns = map turn_of c.args.proposal.turns.items in
    let lent : List Finding = c.deref.result.now in
    let A : Option Tally → Type 0 = λ o. IfSome o (λ k. IsAccepted marks declared turns (tally_of k)) in
    let L : Option Witness → Type 0 = λ o. IfSome o (λ w. witness_of w ≡ left_out turns (map finding_of lent)) in
    let F : Option Witness → Type 0 = λ o. IfSome o (λ w. AreFound marks declared turns (map finding_of lent)) in
    let left : witness_of c.in-Some-left.left ≡ left_out turns (map finding_of lent) = subst L c.in-Some-left.is c.in_ok-left.ensures.left in
    let found : AreFound marks declared turns (map finding_of lent) = subst F c.in-Some-left.is (c.in_ok-left.ensures.found recorded) in
    let D : List Finding → Type 0 = λ fs. AreFound marks declared turns (map finding_of fs) in
    let E : List Finding → Type 0 = λ fs. witness_of c.in-Some-left.left ≡ left_out turns (map finding_of fs) in
    let same : lent ≡ c.deref-2.result.now = c.deref.ensures.value ∙ sym c.deref-2.ensures.value in (
      record { accepted = subst A c.in-Some.is (c.in_ok-tally.ensures recorded); found = subst D c.deref.ensures.value found },
      c.in_ok-is_decided.ensures turns recorded (subst E same left) (subst D same found),
    )
