use Rattle.std.proofs.Common.{List, All, map, take, drop, suc, sym, subst, refl}
use Rattle.std.proofs.lemmas.List.{take_all}
use Rattle.std.proofs.lemmas.List.Elements.{All-push}
use Rattle.kmipa_record.specs.Marks.{mark_of}
use Rattle.kmipa_record.specs.declared.transcript.Mark.{Mark}
use Rattle.kmipa_record.proofs.WritingLemmas.{mapped_more, mapped_here, one_of}
use Rattle.kmipa_judge.specs.Clients.{IsBy}
use Rattle.kmipa_judge.proofs.clients.are_by.Goals as goal

pub returns-then-not-is_by : goal.returns-then-not-is_by
returns-then-not-is_by c = (
  λ t. absurd cc,
  λ all.
      let marks = c.args.marks.now in let i = c.marks.mark-index in let mark = c.mark-item.result in
      let one = one_of (IsBy c.args.id.now) (map mark_of marks) (map mark_of (take i marks)) (map mark_of (drop (suc i) marks)) (mark_of mark)
      (mapped_here mark_of marks i mark c.marks-test.true c.mark-item.is) all in
      absurd (let yes = c.is_by.ensures.1 one in let not = c.if-not-is_by.true in cc),
)

pub marks-preserved : goal.marks-preserved
marks-preserved c =
    let marks = c.args.marks.now in let i = c.marks.mark-index in let mark = c.mark-item.result in
    subst (All (IsBy c.args.id.now)) (sym (mapped_more mark_of marks i mark c.marks-test.true c.mark-item.is))
    (All-push (IsBy c.args.id.now) (map mark_of (take i marks)) (mark_of mark) c.marks.invariant (c.is_by.ensures.0 c.if-not-is_by.false))

pub returns : goal.returns
returns c = (
  λ t. subst (λ (l : List Mark). All (IsBy c.args.id.now) (map mark_of l)) (take_all c.marks.mark-index c.args.marks.now c.marks-test.false) c.marks.invariant,
  λ all. refl,
)
