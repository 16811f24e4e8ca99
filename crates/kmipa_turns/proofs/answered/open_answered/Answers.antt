use Rattle.std.proofs.Common.{List, ℕ, Option, option_map, refl, ap, subst}
use Rattle.kmipa_ttlv.specs.Tree.{Tree}
use Rattle.kmipa_ttlv.specs.ViewTree.{view_tree}
use Rattle.kmipa_record.specs.Entries.{items_of}
use Rattle.kmipa_places.specs.Calls.{message_of}
use Rattle.kmipa_places.specs.Fits.{IsFitAnswer}
use Rattle.kmipa_turns.specs.Answered.{formless, given}
use Rattle.kmipa_turns.specs.Recorded.{IsItem}
use Rattle.kmipa_turns.proofs.AnswerLemmas.{lent_message, not_set}
use Rattle.kmipa_turns.proofs.answered.open_answered.Goals as goal

pub returns-then-not-branch : goal.returns-then-not-branch
returns-then-not-branch c = λ d unended.
    let item = option_map view_tree c.whole_item-response.result in
    let I : List ℕ → Type 0 = λ bytes. IsItem bytes item in
    let F : Option Tree → Type 0 = λ r. IsFitAnswer (message_of c.args.request) r → ⊥ in
    let unfit : IsFitAnswer (message_of c.args.request) (message_of c.as_ref.result) → ⊥ = λ fit. let yes = c.in_ok-is_fit_answer.ensures.1 fit in let no = c.if-not-branch.true in absurd cc in
    formless c.in-Some.answer.items item unended (not_set c.args.turn.now.asides.items c.deref.result.now c.sets_aside.result c.deref.ensures.value c.sets_aside.ensures c.if-sets_aside.false)
    (ap (option_map items_of) c.in-Some.is) (subst I c.deref-2.ensures.value c.whole_item-response.ensures) (subst F (lent_message c.as_ref.result c.whole_item-response.result c.as_ref.ensures.value) unfit) refl

pub returns : goal.returns
returns c = λ d unended.
    let item = option_map view_tree c.whole_item-response.result in
    let I : List ℕ → Type 0 = λ bytes. IsItem bytes item in
    let F : Option Tree → Type 0 = λ r. IsFitAnswer (message_of c.args.request) r in
    let fit : IsFitAnswer (message_of c.args.request) (message_of c.as_ref.result) = c.in_ok-is_fit_answer.ensures.0 c.if-not-branch.false in
    given c.in-Some.answer.items unended (not_set c.args.turn.now.asides.items c.deref.result.now c.sets_aside.result c.deref.ensures.value c.sets_aside.ensures c.if-sets_aside.false)
    (ap (option_map items_of) c.in-Some.is) (subst I c.deref-2.ensures.value c.whole_item-response.ensures) (subst F (lent_message c.as_ref.result c.whole_item-response.result c.as_ref.ensures.value) fit)
