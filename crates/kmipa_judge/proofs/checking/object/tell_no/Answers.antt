use Rattle.kmipa_json.specs.Told.{members_of}
use Rattle.kmipa_record.specs.Declarations.{declaration_of}
use Rattle.kmipa_record.specs.Transcripts.{transcript_of}
use Rattle.kmipa_record.specs.Witnesses.{witness_of}
use Rattle.kmipa_judge.proofs.CheckLemmas.{no_told}
use Rattle.kmipa_judge.proofs.checking.object.tell_no.Goals as goal

pub returns : goal.returns
returns c =
    let read = c.args.read.now in
    no_told c.args.explained (transcript_of read.records.transcript) (declaration_of read.records.declaration) (witness_of read.witness) c.args.refused c.args.stamp (members_of c.args.told.now)
    (members_of c.tell_refused.new.told) (members_of c.tell_date.new.told) (members_of c.tell_why.new.told) c.in_ok-tell_refused.ensures c.in_ok-tell_date.ensures c.in_ok-tell_why.ensures
