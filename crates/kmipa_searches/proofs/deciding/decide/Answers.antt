use Rattle.std.proofs.Common.{List, map, sym, subst}
use Rattle.kmipa_record.specs.Transcripts.{transcript_of}
use Rattle.kmipa_check.specs.Calls.{AreCalls, call_of}
use Rattle.kmipa_record.specs.declared.call.Call.{Call}
use Rattle.kmipa_searches.proofs.deciding.decide.Goals as goal

pub returns : goal.returns
returns c = λ recorded.
    let P : List Call → Type 0 = λ cs. AreCalls (transcript_of c.args.transcript.now) (map call_of cs) in
    c.decide_calls.ensures recorded (subst P (sym c.deref.ensures.value) (c.in_ok-calls.ensures.read recorded))
