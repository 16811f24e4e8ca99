use Rattle.kmipa_json.specs.Told.{members_of}
use Rattle.kmipa_record.specs.Declarations.{declaration_of}
use Rattle.kmipa_record.specs.Transcripts.{transcript_of}
use Rattle.kmipa_record.specs.Witnesses.{witness_of}
use Rattle.kmipa_judge.specs.Checks.{TellsSighted}
use Rattle.kmipa_judge.proofs.CheckLemmas.{in_object}
use Rattle.kmipa_judge.proofs.checking.object.sighted_object.Goals as goal

pub returns : goal.returns
returns g c =
    let t = c.args.files.now.transcript.now in
    let d = c.args.files.now.declaration.now in
    let w = c.args.files.now.witness.now in
    let read = c.args.read.now in
    let Tells = TellsSighted c.args.explained (transcript_of read.records.transcript) (declaration_of read.records.declaration) (witness_of read.witness) c.args.verdict.now c.in_ok-status.status in
    in_object c.args.torn read.records.transcript.head t d w Tells (members_of c.in_ok-told.told) (members_of c.tell_sighted.new.told) _ c.in_ok-told.ensures c.in_ok-status.ensures c.in_ok-text.ensures
