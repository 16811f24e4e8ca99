use Rattle.std.proofs.Common.{List, Option, map, refl, subst}
use Rattle.std.specs.Prelude.{IfSome}
use Rattle.kmipa_record.specs.Declarations.{declaration_of}
use Rattle.kmipa_record.specs.Transcripts.{transcript_of}
use Rattle.kmipa_record.specs.Witnesses.{turn_of}
use Rattle.kmipa_record.specs.declared.turn.Turn.{Turn}
use Rattle.kmipa_trail.specs.Told.{tally_of}
use Rattle.kmipa_trail.specs.Verdicts.{IsAccepted}
use Rattle.kmipa_trail.specs.declared.tally.Tally.{Tally}
use Rattle.kmipa_findings.specs.Findings.{SetsNothingAside}
use Rattle.kmipa_findings.specs.Seeking.{IsSought}
use Rattle.kmipa_findings.specs.declared.seeking.Order.{Order}
use Rattle.kmipa_findings.proofs.seeking.confirmed.Goals as goal

pub returns-in-Some-unexcepted : goal.returns-in-Some-unexcepted
returns-in-Some-unexcepted c = λ seconds budget within recorded given.
    let marks = transcript_of c.args.transcript.now in
    let declared = declaration_of c.args.declaration.now in
    let A : Option Tally → Type 0 = λ o. IfSome o (λ k. IsAccepted marks declared (map turn_of c.args.turns.items) (tally_of k)) in
    let S : List Turn → Type 0 = λ ts. SetsNothingAside (map turn_of ts) in
    let U : Option Order → Type 0 = λ o. IfSome o (IsSought budget marks declared) in
    subst U c.in-Some-unexcepted.is
    (c.unexcepted.ensures budget marks declared within (subst A c.in-Some.is (c.in_ok-tally.ensures recorded)) (subst S c.deref.ensures.value (c.if-not-set_nothing_aside.ensures refl)))
