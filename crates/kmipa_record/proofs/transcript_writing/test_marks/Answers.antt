use Rattle.std.proofs.Common.{List, map, take, sym, subst}
use Rattle.std.proofs.lemmas.List.{take_all}
use Rattle.kmipa_record.specs.Calls.{Follow}
use Rattle.kmipa_record.specs.Marks.{MarkOf, mark_of, AreRecorded}
use Rattle.kmipa_record.specs.declared.transcript.Mark.{Mark}
use Rattle.kmipa_record.proofs.CallLemmas.{follow_none, one_more_taken}
use Rattle.kmipa_record.proofs.TranscriptLemmas.{none_recorded}
use Rattle.kmipa_record.proofs.WritingLemmas.{mapped_more}
use Rattle.kmipa_record.proofs.WrittenTranscriptLemmas.{mark_refused}
use Rattle.kmipa_record.proofs.transcript_writing.test_marks.Goals as goal

pub loop-mark-init : goal.loop-mark-init
loop-mark-init c = (none_recorded, follow_none c.new-calls.result c.new-calls.ensures)

pub returns-in-Err-clause-refused : goal.returns-in-Err-clause-refused
returns-in-Err-clause-refused c =
    mark_refused c.args.marks.now c.loop-mark.mark-index c.mark-item.result c.loop-mark.calls c.in-Err.kind c.refusal.result c.loop-mark-test.true c.mark-item.is
    c.loop-mark.invariant.1 c.in-Err.ensures c.refusal.ensures

pub loop-mark-preserved : goal.loop-mark-preserved
loop-mark-preserved c =
    let marks = c.args.marks.now in let i = c.loop-mark.mark-index in let mark = c.mark-item.result in
    subst (λ (l : List MarkOf). AreRecorded l × Follow l c.take.new.self) (sym (mapped_more mark_of marks i mark c.loop-mark-test.true c.mark-item.is))
    (one_more_taken (map mark_of (take i marks)) (mark_of mark) c.loop-mark.calls c.take.new.self c.in-Ok.ensures c.loop-mark.invariant.0 c.loop-mark.invariant.1)

pub returns-clause-recorded : goal.returns-clause-recorded
returns-clause-recorded c =
    let all = subst (λ (l : List Mark). AreRecorded (map mark_of l) × Follow (map mark_of l) c.loop-mark.calls) (take_all c.loop-mark.mark-index c.args.marks.now c.loop-mark-test.false) c.loop-mark.invariant in
    all.0
