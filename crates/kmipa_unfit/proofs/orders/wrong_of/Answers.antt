use Rattle.std.proofs.Common.{rules, ℤ, List, Contains, Some, None, map, sym, subst}
use mir.Val.{SFits}
use mir.Syntax.{w32}
use Rattle.std.proofs.lemmas.Int.{to_z-of_z}
use Rattle.kmipa_msgs.specs.Messages.{answer_of, request_of, response_of}
use Rattle.kmipa_msgs.specs.declared.response.Answer.{Answer}
use Rattle.kmipa_unfit.specs.OrderFinding.{FailsFirst}
use Rattle.kmipa_unfit.specs.UnfitOrders.{IsUnanswered}
use Rattle.kmipa_unfit.proofs.DisorderLemmas.{beyond_told, is_missing, none_failed, not_last, not_last_at}
use Rattle.kmipa_unfit.proofs.orders.wrong_of.Goals as goal

pub returns-in-Some : goal.returns-in-Some
returns-in-Some c =
    let request = request_of c.args.request.now in
    let response = response_of c.args.response.now in
    let number : ℤ = c.in-Some.number in
    let fits : SFits w32 number = search rules in
    let T : ℤ → Type 0 = λ z. Contains c.args.numbers.now z × IsUnanswered request response z in
    subst T (sym (to_z-of_z w32 number fits)) (beyond_told request response c.args.numbers.now c.args.answered number c.requires.counted c.in-Some.ensures)

pub returns-in-Some-first_left : goal.returns-in-Some-first_left
returns-in-Some-first_left c =
    let l = c.in-Some-first_left.ensures in
    is_missing (request_of c.args.request.now) (response_of c.args.response.now) c.args.numbers.now c.args.answered l.0 c.in-Some-first_left.item c.requires.counted l.1 l.2 l.3

pub returns-in-Some-first_failed : goal.returns-in-Some-first_failed
returns-in-Some-first_failed c =
    let request = request_of c.args.request.now in
    let response = response_of c.args.response.now in
    let item = c.in-Some-first_failed.item in
    let P : List Answer → Type 0 = λ answers. FailsFirst (map answer_of answers) (Some item) in
    let f = subst P c.deref.ensures.value c.in-Some-first_failed.ensures in
    not_last_at request response c.args.numbers.now item f.0 f.1
    (not_last request response c.args.numbers.now c.args.answered c.requires.counted c.requires.orderless c.in_default.ensures c.in_default-first_twice.ensures c.in_default-first_left.ensures f.0 f.2)

pub returns-in-None : goal.returns-in-None
returns-in-None c =
    let request = request_of c.args.request.now in
    let response = response_of c.args.response.now in
    let P : List Answer → Type 0 = λ answers. FailsFirst (map answer_of answers) None in
    absurd (none_failed request response c.args.numbers.now c.args.answered c.requires.counted c.requires.orderless c.in_default.ensures c.in_default-first_twice.ensures c.in_default-first_left.ensures
    (subst P c.deref.ensures.value c.in-None.ensures))
