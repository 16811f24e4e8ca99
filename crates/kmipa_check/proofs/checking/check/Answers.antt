use Rattle.std.proofs.Common.{All, List, map, subst, sym}
use Rattle.kmipa_record.specs.Transcripts.{transcript_of}
use Rattle.kmipa_check.specs.Calls.{call_of, AreCalls, IsRecorded}
use Rattle.kmipa_record.specs.declared.call.Call.{Call}
use Rattle.kmipa_check.proofs.checking.check.Goals as goal

pub check_calls-requires-clause-each : goal.check_calls-requires-clause-each
check_calls-requires-clause-each c =
    let marks = transcript_of c.args.transcript.now in
    let P : List Call → Type 0 = λ cs. All (IsRecorded marks) (map call_of cs) in
    (marks, subst P (sym c.deref.ensures.value) c.in_ok-calls.ensures.each)

pub returns : goal.returns
returns c recorded =
    let marks = transcript_of c.args.transcript.now in
    let P : List Call → Type 0 = λ cs. AreCalls marks (map call_of cs) in
    c.check_calls.ensures marks recorded (subst P (sym c.deref.ensures.value) (c.in_ok-calls.ensures.read recorded))
