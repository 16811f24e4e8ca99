use Rattle.std.proofs.Common.{[], ◌∷◌, ◌++◌, ◌∙◌, refl}
use Rattle.kmipa_record.specs.Marks.{mark_of}
use Rattle.kmipa_links.proofs.LinkLemmas.{taken_none}
use Rattle.kmipa_links.proofs.linking.pass_marks.Goals as goal

pub marks-init : goal.marks-init
marks-init g c = record { so_far = ([], taken_none c.args.source.now c.args.links.now c.requires); same = refl }

pub marks-preserved-in-Ok : goal.marks-preserved-in-Ok
marks-preserved-in-Ok g c =
    let k = c.marks.invariant.so_far in
    let come = rw c.in-Some.is at (c.in_ok-mark.ensures.come k.0 k.1.come) in
    record {
      so_far = (k.0 ++ mark_of c.in-Some.mark ∷ [], record { come = come; taken = λ before h. c.in-Ok.ensures before k.0 (k.1.taken before h) come.recorded });
      same = c.in_ok-mark.ensures.same_reference ∙ c.marks.invariant.same;
    }

pub marks-preserved : goal.marks-preserved
marks-preserved g c =
    let k = c.marks.invariant.so_far in
    let come = rw c.in-Some.is at (c.in_ok-mark.ensures.come k.0 k.1.come) in
    record {
      so_far = (k.0 ++ mark_of c.in-Some.mark ∷ [], record { come = come; taken = λ before h. c.in-Ok.ensures before k.0 (k.1.taken before h) come.recorded });
      same = c.in_ok-mark.ensures.same_reference ∙ c.marks.invariant.same;
    }
