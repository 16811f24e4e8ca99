use Rattle.std.proofs.Common.{◌∙◌, Some, ap, arith, sym}
use Rattle.kmipa_record.specs.Declarations.{declaration_of}
use Rattle.kmipa_record.specs.Transcripts.{transcript_of}
use Rattle.kmipa_record.specs.Witnesses.{TurnOf, turn_of, witness_of}
use Rattle.kmipa_check.proofs.PlaceLemmas.{mapped_at}
use Rattle.kmipa_judge.proofs.CheckLemmas.{no_meant}
use Rattle.kmipa_judge.proofs.checking.meaning.no_meaning.Goals as goal

pub returns : goal.returns
returns c =
    let read = c.args.read.now in
    let place = c.in-Some.place in
    let tried = turn_of c.in_ok-tried.tried in
    let at = mapped_at turn_of read.witness.turns.items place c.index.result.now (omega (arith, c.if-place-len.false)) c.index.ensures in
    no_meant (transcript_of read.records.transcript) (declaration_of read.records.declaration) (witness_of read.witness)
    (record { place = place; tried = tried; refused = c.args.refused; stamp = c.args.stamp }) c.finding_meaning.result
    (at ∙ ap (λ (t : TurnOf). Some t) (sym c.in_ok-tried.ensures)) c.finding_meaning.ensures
