use Rattle.std.proofs.Common.{◌∷◌, ◌++◌, [], ◌∙◌}
use Rattle.kmipa_record.specs.Marks.{mark_of}
use Rattle.kmipa_stream.proofs.auditing.pass_marks.Goals as goal

pub marks-preserved-in-Some : goal.marks-preserved-in-Some
marks-preserved-in-Some g c =
    let k = c.marks.invariant.come in
    record {
      come = (k.0 ++ mark_of c.in-Some.field-0 ∷ [], rw c.in-Some.is at (c.in_ok-next.ensures.come k.0 k.1));
      same = c.in_ok-next.ensures.same_reference ∙ c.marks.invariant.same;
    }

pub marks-preserved-in-Some-2 : goal.marks-preserved-in-Some-2
marks-preserved-in-Some-2 g c =
    let k = c.marks.invariant.come in
    record {
      come = (k.0 ++ mark_of c.in-Some.field-0 ∷ [], rw c.in-Some.is at (c.in_ok-next.ensures.come k.0 k.1));
      same = c.in_ok-next.ensures.same_reference ∙ c.marks.invariant.same;
    }
