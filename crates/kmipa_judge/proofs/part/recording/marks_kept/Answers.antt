use Rattle.std.proofs.Common.{[], List, ap, map, arith}
use Rattle.kmipa_record.specs.Marks.{MarkOf, call_of, mark_of}
use Rattle.kmipa_record.specs.declared.transcript.Mark.{Mark}
use Rattle.kmipa_judge.specs.Parts.{keeps}
use Rattle.kmipa_judge.proofs.PartLemmas.{kept_all, kept_none, kept_on}
use Rattle.kmipa_judge.proofs.part.recording.marks_kept.Goals as goal

pub marks-init : goal.marks-init
marks-init c = kept_none mark_of (λ (m : MarkOf). keeps c.args.kept.places.now c.args.kept.turns.now (call_of m)) [] c.args.marks.now (map mark_of c.new-part.result.items)
    (ap (λ (l : List Mark). map mark_of l) c.new-part.ensures.items)

pub marks-preserved : goal.marks-preserved
marks-preserved c =
    kept_on mark_of (λ (m : MarkOf). keeps c.args.kept.places.now c.args.kept.turns.now (call_of m)) [] c.args.marks.now c.marks.place c.index-marks-place.result
    (map mark_of c.marks.part.items) (map mark_of c.keep_mark.new.part.items) c.marks-test.true c.index-marks-place.is c.in_ok-keep_mark.ensures c.marks.invariant

pub returns : goal.returns
returns c =
    kept_all mark_of (λ (m : MarkOf). keeps c.args.kept.places.now c.args.kept.turns.now (call_of m)) [] c.args.marks.now c.marks.place (map mark_of c.marks.part.items)
    (omega (arith, c.marks-test.false)) c.marks.invariant
