use Rattle.std.proofs.Common.{◌∷◌, ◌++◌, [], sym, ◌∙◌}
use Rattle.kmipa_record.specs.Marks.{mark_of}
use Rattle.kmipa_stream.proofs.StandingLemmas.{on_ok}
use Rattle.kmipa_stream.proofs.auditing.take_marks.Goals as goal

pub marks-preserved-then-sufficed : goal.marks-preserved-then-sufficed
marks-preserved-then-sufficed g c =
    let k = c.marks.invariant.come in
    let come = rw c.in-Some.is at (c.in_ok-mark.ensures.come k.0 k.1) in
    record {
      come = (
        k.0 ++ mark_of c.in-Some.mark ∷ [],
        come,
        (λ turns declared s ok. on_ok c.take.result _ (c.take.ensures k.0 turns declared (k.2 turns declared s c.if-sufficed.true) come.recorded) (sym c.is_ok-sufficed.ensures.value ∙ ok)),
      );
      same = c.in_ok-mark.ensures.same_reference ∙ c.marks.invariant.same;
    }

pub marks-preserved-else-sufficed : goal.marks-preserved-else-sufficed
marks-preserved-else-sufficed g c =
    let k = c.marks.invariant.come in
    record {
      come = (k.0 ++ mark_of c.in-Some.mark ∷ [], rw c.in-Some.is at (c.in_ok-mark.ensures.come k.0 k.1), (λ turns declared s ok. absurd (let no = c.if-sufficed.false in cc)));
      same = c.in_ok-mark.ensures.same_reference ∙ c.marks.invariant.same;
    }

pub marks-preserved : goal.marks-preserved
marks-preserved g c =
    let k = c.marks.invariant.come in
    record {
      come = (k.0 ++ mark_of c.in-Some.mark ∷ [], rw c.in-Some.is at (c.in_ok-mark.ensures.come k.0 k.1), (λ turns declared s ok. absurd (let no = c.if-sufficed.false in cc)));
      same = c.in_ok-mark.ensures.same_reference ∙ c.marks.invariant.same;
    }
