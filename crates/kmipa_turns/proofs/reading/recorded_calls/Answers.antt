use Rattle.std.proofs.Common.{◌∙◌, Vec, Global, ap, map, arith}
use Rattle.std.proofs.lemmas.List.{length-map}
use Rattle.kmipa_record.specs.Marks.{mark_of}
use Rattle.kmipa_turns.specs.declared.recorded.Recorded.{Recorded}
use Rattle.kmipa_turns.specs.Recorded.{recorded_of}
use Rattle.kmipa_turns.proofs.MarkLemmas.{read_more, read_past, read_all, numbers_read}
use Rattle.kmipa_turns.proofs.reading.recorded_calls.Goals as goal
use Rattle.kmipa_turns.proofs.reading.recorded_calls.Goals.{in-Some+in_ok-push, in_default}

pub marks-preserved : goal.marks-preserved
marks-preserved c = elim c.match-recorded_at.branch [
  | in-Some+in_ok-push w ↦ read_more c.deref-in-marks.result.now c.args.transcript.now.marks.items c.marks.place c.marks.calls.items c.match-recorded_at.calls.items c.recorded_at.result w.in-Some.call
      c.deref-in-marks.ensures.value w.in-Some.is (ap (λ (v : Vec Recorded Global). v.items) w.calls-is ∙ w.in_ok-push.ensures.items) c.recorded_at.ensures c.marks.invariant
  | in_default w ↦ read_past c.deref-in-marks.result.now c.args.transcript.now.marks.items c.marks.place c.marks.calls.items c.match-recorded_at.calls.items c.recorded_at.result
      c.deref-in-marks.ensures.value w.in_default.is (ap (λ (v : Vec Recorded Global). v.items) w.calls-is) c.recorded_at.ensures c.marks.invariant
]

pub returns-clause-numbers : goal.returns-clause-numbers
returns-clause-numbers c =
    numbers_read (map mark_of c.args.transcript.now.marks.items) c.marks.calls.items
    (read_all (map mark_of c.args.transcript.now.marks.items) c.marks.place (map recorded_of c.marks.calls.items) (omega (arith, c.marks-test.false, length-map c.args.transcript.now.marks.items mark_of)) c.marks.invariant)
