use Rattle.std.proofs.Common.{◌+◌, ℕ, List, Option, inl, inr, map, refl, sym, subst, arith}
use Rattle.std.proofs.lemmas.List.{length-map}
use Rattle.kmipa_check.proofs.PlaceLemmas.{mapped_at}
use Rattle.kmipa_msgs.specs.Messages.{answer_of, ask_of, lent, maybe_lent, request_of, response_of}
use Rattle.kmipa_parts.proofs.MakingLemmas.{left_all, left_one_more}
use Rattle.kmipa_parts.specs.Making.{LeftSoFar}
use Rattle.kmipa_parts.specs.Parts.{is_among}
use Rattle.kmipa_parts.proofs.call.leave_be.Goals as goal

pub returns-then-place-len : goal.returns-then-place-len
returns-then-place-len c = λ e.
    left_all (is_among (map lent c.args.ids.now)) (request_of c.args.request.now).items (response_of c.args.response.now).items c.items.place (maybe_lent c.items.held) c.items.invariant.0 c.items.invariant.1
    (inl (omega (arith, c.if-place-len.true, c.len-in-items.ensures, length-map c.args.request.now.items.items ask_of))) c.items.invariant.2

pub items-preserved : goal.items-preserved
items-preserved c =
    let asks = (request_of c.args.request.now).items in
    let answers = (response_of c.args.response.now).items in
    let asked = length-map c.args.request.now.items.items ask_of in
    let answered = length-map c.args.response.now.items.items answer_of in
    let k = mapped_at ask_of c.args.request.now.items.items c.items.place c.index-ask.result.now (omega (arith, c.if-place-len.false, c.len-in-items.ensures)) c.index-ask.ensures in
    let a = mapped_at answer_of c.args.response.now.items.items c.items.place c.index-answer.result.now (omega (arith, c.items-test.true, c.len.ensures)) c.index-answer.ensures in
    let P : Option (List ℕ) → Type 0 = λ h. LeftSoFar (is_among (map lent c.args.ids.now)) asks answers (c.items.place + 1) h in (
      omega (arith, c.if-place-len.false, c.len-in-items.ensures, asked),
      omega (arith, c.items-test.true, c.len.ensures, answered),
      subst P (sym c.held_after-held.ensures)
          (left_one_more (is_among (map lent c.args.ids.now)) asks answers c.items.place (maybe_lent c.items.held) (ask_of c.index-ask.result.now) (answer_of c.index-answer.result.now) k a c.items.invariant.2 (c.if-not-leaves_be.ensures refl)),
    )

pub returns : goal.returns
returns c = λ e.
    left_all (is_among (map lent c.args.ids.now)) (request_of c.args.request.now).items (response_of c.args.response.now).items c.items.place (maybe_lent c.items.held) c.items.invariant.0 c.items.invariant.1
    (inr (omega (arith, c.items-test.false, c.len.ensures, length-map c.args.response.now.items.items answer_of))) c.items.invariant.2
