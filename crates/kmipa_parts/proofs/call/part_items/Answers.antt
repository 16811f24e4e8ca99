use Rattle.std.proofs.Common.{◌+◌, ◌++◌, ◌∙◌, ℕ, List, [], ◌∷◌, Option, IfSome, map, sym, ap, subst, arith}
use Rattle.std.proofs.lemmas.List.{map-append}
use Rattle.kmipa_check.proofs.PlaceLemmas.{mapped_at}
use Rattle.kmipa_msgs.specs.Messages.{AskOf, AnswerOf, answer_of, ask_of, lent, maybe_lent}
use Rattle.kmipa_parts.specs.Making.{MadeSoFar}
use Rattle.kmipa_parts.specs.Parts.{held_after, is_among, IsPart}
use Rattle.kmipa_parts.specs.declared.item.PartItem.{PartItem}
use Rattle.kmipa_parts.proofs.MakingLemmas.{made_more}
use Rattle.kmipa_parts.proofs.call.part_items.Goals as goal

pub items-preserved : goal.items-preserved
items-preserved c =
    let own = is_among (map lent c.args.ids.now) in
    let asks = map ask_of c.args.asks.now in
    let answers = map answer_of c.args.answers.now in
    let place = c.items.place in
    let held = maybe_lent c.items.held in
    let ask = c.index-asks-place.result in
    let answer = c.index-answers-place.result in
    let item = c.in-Some.item in
    let k = mapped_at ask_of c.args.asks.now place ask (omega (arith, c.if-place-asks.false)) c.index-asks-place.is in
    let a = mapped_at answer_of c.args.answers.now place answer c.items-test.true c.index-answers-place.is in
    let I : Option PartItem → Type 0 = λ o. IfSome o (λ (i : PartItem). IsPart own held (ask_of ask) (answer_of answer) (ask_of i.ask) (answer_of i.answer)) in
    let part = subst I c.in-Some.is c.in_ok-item.ensures in
    let H : Option (List ℕ) → Type 0 = λ h. MadeSoFar own asks answers (place + 1) h (map ask_of c.push.new.self.items) (map answer_of c.push-in-items.new.self.items) in
    let after = held_after held (ask_of ask).asked (answer_of answer).status (answer_of answer).payload in
    let now = made_more own asks answers place held (map ask_of c.items.parts.items) (map answer_of c.items.shown.items) (ask_of ask) (answer_of answer) (ask_of item.ask) (answer_of item.answer) k a c.items.invariant.2 part in
    let ps = ap (map ask_of) c.in_ok-push.ensures.items ∙ map-append ask_of c.items.parts.items (item.ask ∷ []) in
    let qs = ap (map answer_of) c.in_ok-push-2.ensures.items ∙ map-append answer_of c.items.shown.items (item.answer ∷ []) in (
      omega (arith, c.if-place-asks.false),
      omega (arith, c.items-test.true),
      subst H (sym c.held_after-held.ensures)
          (subst (λ (xs : List AskOf). MadeSoFar own asks answers (place + 1) after xs (map answer_of c.push-in-items.new.self.items)) (sym ps)
          (subst (λ (xs : List AnswerOf). MadeSoFar own asks answers (place + 1) after (map ask_of c.items.parts.items ++ ask_of item.ask ∷ []) xs) (sym qs) now)),
    )
