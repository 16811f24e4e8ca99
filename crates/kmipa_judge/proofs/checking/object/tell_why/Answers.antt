use Rattle.std.proofs.Common.{Bool, subst, sym}
use Rattle.std.specs.Prelude.{OnOk}
use Rattle.std.proofs.lemmas.Result.{on_ok_weaker}
use Rattle.kmipa_json.specs.Told.{members_of}
use Rattle.kmipa_record.specs.Declarations.{declaration_of}
use Rattle.kmipa_record.specs.Transcripts.{transcript_of}
use Rattle.kmipa_record.specs.Witnesses.{witness_of}
use Rattle.kmipa_judge.specs.Checks.{TellsNoMeaning}
use Rattle.kmipa_judge.proofs.checking.object.tell_why.Goals as goal

pub returns-in_ok-meaning : goal.returns-in_ok-meaning
returns-in_ok-meaning c =
    let read = c.args.read.now in
    let P : Bool → Type 0 = λ e. OnOk c.tell_meaning.result (TellsNoMeaning e (transcript_of read.records.transcript) (declaration_of read.records.declaration) (witness_of read.witness) c.args.refused
    (members_of c.args.told.now) (members_of c.tell_meaning.new.told)) in
    subst P (sym c.if-explained.true) (on_ok_weaker c.tell_meaning.result (λ p. (c.in_ok-meaning.meaning, c.in_ok-meaning.ensures, p)) c.tell_meaning.ensures)
