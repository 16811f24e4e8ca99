use Rattle.std.proofs.Common.{[], map, refl}
use Rattle.kmipa_ttlv.specs.Input.{came_of, is_failed}
use Rattle.kmipa_record.specs.Marks.{mark_of}
use Rattle.kmipa_record.specs.TranscriptReading.{input_of, mark_place}
use Rattle.kmipa_record.specs.declared.fault.RecordFault.{RecordFault}
use Rattle.kmipa_record.specs.declared.fault.RecordKind.TheVariants.{Memory}
use Rattle.kmipa_record.proofs.TranscriptLemmas.{unkept_reported, unkept_place}
use Rattle.kmipa_record.proofs.transcript.take_mark.Goals as goal
use Rattle.kmipa_record.proofs.transcript.take_mark.Goals.{in-Ok, in-Err}

pub returns-clause-fault : goal.returns-clause-fault
returns-clause-fault g c = λ file is.
    let source = c.next.new.self in
    let marks = map mark_of c.args.marks.now.items in
    let stands = rw c.in-Some.is at (c.in_ok-mark.ensures.placed marks c.requires) in
    elim c.match-push.branch [
      | in-Ok w ↦ rw w.result-is tt
      | in-Err w ↦
          let f : RecordFault = record { offset = w.place.result; kind = Memory } in
          rw w.result-is (unkept_reported file (came_of (input_of source)) is.0 marks (mark_of c.in-Some.mark) (mark_place source) (is_failed (input_of source)) f is.1 c.requires.recorded (stands is.0) w.place.ensures refl)
    ]

pub returns-clause-place : goal.returns-clause-place
returns-clause-place g c =
    let source = c.next.new.self in
    let marks = map mark_of c.args.marks.now.items in
    let stands = rw c.in-Some.is at (c.in_ok-mark.ensures.placed marks c.requires) in
    elim c.match-push.branch [
      | in-Ok w ↦ rw w.result-is tt
      | in-Err w ↦
          let f : RecordFault = record { offset = w.place.result; kind = Memory } in
          rw w.result-is (unkept_place (came_of (input_of source)) marks (mark_of c.in-Some.mark) (mark_place source) f (stands []) w.place.ensures refl)
    ]

pub returns-in_default-clause-ended : goal.returns-in_default-clause-ended
returns-in_default-clause-ended g c = λ e. c.in_ok-mark.ensures.ended (map mark_of c.args.marks.now.items) c.requires c.in_default.is
