use Rattle.std.proofs.Common.{rules, map, subst, sym, Err, Result}
use Rattle.kmipa_ttlv.specs.Input.{came_of}
use Rattle.kmipa_record.specs.TranscriptReading.{input_of}
use Rattle.kmipa_record.specs.Witnesses.{turn_of}
use Rattle.kmipa_check.specs.declared.fault.CheckFault.{CheckFault}
use Rattle.kmipa_check.specs.declared.fault.CheckFault.TheVariants.{Memory}
use Rattle.kmipa_stream.specs.Standing.{IsJudged, Judges}
use Rattle.kmipa_stream.specs.declared.stamped.Stamped.{Stamped}
use Rattle.kmipa_stream.proofs.StreamLemmas.{known_with}
use Rattle.kmipa_stream.proofs.auditing.judge_by.Goals as goal

pub judge-stamped-requires : goal.judge-stamped-requires
judge-stamped-requires g c =
    let first = c.requires.first in
    let t = c.in-Ok-true.ensures.taken first.0 first.1 first.2 in
    record { marks = t.0; turns = first.0; declared = first.1; stands = t.3 c.in-Ok-true.field-0-test }

pub returns-in-Ok-true-clause-judged : goal.returns-in-Ok-true-clause-judged
returns-in-Ok-true-clause-judged g c = λ turns declared stands.
    let source = c.take_marks-taken.new.source in
    let t = c.in-Ok-true.ensures.taken turns declared stands in
    let j = c.judge-stamped.ensures t.0 turns declared t.1.recorded (t.3 c.in-Ok-true.field-0-test) in
    let P : Result Stamped CheckFault → Type 0 = λ x. Judges t.0 declared (map turn_of turns) x in
    let h : IsJudged (input_of source) declared (map turn_of turns) c.with_head.result = record {
      marks = t.0;
      transcript = t.1;
      ended = t.2;
      judged = subst P (sym c.with_head.ensures.alone) j;
      known = known_with (came_of (input_of source)) t.0 c.take_head-head.result c.with_head.result (c.take_head-head.ensures.known t.0 t.4) c.with_head.ensures.head;
    } in
    search (rules, h)

pub returns-in-Ok-false-clause-judged : goal.returns-in-Ok-false-clause-judged
returns-in-Ok-false-clause-judged g c = λ turns declared stands.
    let t = c.in-Ok-false.ensures.taken turns declared stands in
    let h : IsJudged (input_of c.take_marks-taken.new.source) declared (map turn_of turns) (Err Memory) = record { marks = t.0; transcript = t.1; ended = t.2; judged = tt; known = tt } in
    search (rules, h)
