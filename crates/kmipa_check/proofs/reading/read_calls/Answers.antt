use Rattle.std.proofs.Common.{◌≡◌, ◌∙◌, Err, Vec, Global, ap, map, arith, rules}
use Rattle.std.proofs.lemmas.List.{length-map}
use Rattle.kmipa_record.specs.Marks.{mark_of}
use Rattle.kmipa_record.specs.Transcripts.{transcript_of}
use Rattle.kmipa_record.specs.declared.call.Call.{Call}
use Rattle.kmipa_check.specs.Calls.{AreCalls, call_of}
use Rattle.kmipa_check.proofs.ReadingLemmas.{read_all, read_err, read_more, read_past}
use Rattle.kmipa_check.proofs.TimedLemmas.{calls_are_timed_lem}
use Rattle.kmipa_check.proofs.reading.read_calls.Goals as goal
use Rattle.kmipa_check.proofs.reading.read_calls.Goals.{in-Some+in_ok-push, in_default}

pub returns-in_err-call-clause-read : goal.returns-in_err-call-clause-read
returns-in_err-call-clause-read c recorded =
    let e : c.from_residual-in_err-call.result ≡ Err c.in_err-call.field-0.0 = search rules in
    read_err (λ (calls : Vec Call Global). AreCalls (transcript_of c.args.transcript.now) (map call_of calls.items)) c.deref-in-marks.result.now c.args.transcript.now.marks.items c.marks.place
    (map call_of c.marks.calls.items) c.from_residual-in_err-call.result c.in_err-call.field-0.0 c.deref-in-marks.ensures.value e c.in_err-call.ensures c.marks.invariant

pub marks-preserved : goal.marks-preserved
marks-preserved c = elim c.match-branch-4.branch [
  | in-Some+in_ok-push w ↦ read_more c.deref-in-marks.result.now c.args.transcript.now.marks.items c.marks.place c.marks.calls.items c.match-branch-4.calls.items c.in_ok-call.field-0 w.in-Some.call
      c.deref-in-marks.ensures.value w.in-Some.is (ap (λ (v : Vec Call Global). v.items) w.calls-is ∙ w.in_ok-push.ensures.items) c.in_ok-call.ensures c.marks.invariant
  | in_default w ↦ read_past c.deref-in-marks.result.now c.args.transcript.now.marks.items c.marks.place c.marks.calls.items c.match-branch-4.calls.items c.in_ok-call.field-0
      c.deref-in-marks.ensures.value w.in_default.is (ap (λ (v : Vec Call Global). v.items) w.calls-is) c.in_ok-call.ensures c.marks.invariant
]

pub returns-clause-timed : goal.returns-clause-timed
returns-clause-timed c recorded =
    calls_are_timed_lem (map mark_of c.args.transcript.now.marks.items) recorded (map call_of c.marks.calls.items)
    (read_all (map mark_of c.args.transcript.now.marks.items) c.marks.place (map call_of c.marks.calls.items) (omega (arith, c.marks-test.false, length-map c.args.transcript.now.marks.items mark_of)) c.marks.invariant)
