use Rattle.std.proofs.Common.{◌≤◌, ◌∙◌, ℕ, List, None, Option, IfSome, length, map, take, sym, subst, arith}
use Rattle.std.proofs.lemmas.List.{length-map}
use Rattle.kmipa_msgs.specs.Messages.{answer_of, ask_of, lent, request_of, response_of}
use Rattle.kmipa_msgs.specs.declared.request.Ask.{Ask}
use Rattle.kmipa_msgs.specs.declared.response.Answer.{Answer}
use Rattle.kmipa_parts.specs.Parts.{is_among, ArePartItems}
use Rattle.kmipa_parts.specs.declared.call.PartItems.{PartItems}
use Rattle.kmipa_parts.proofs.MakingLemmas.{filled_up, parts_long, take_long}
use Rattle.kmipa_parts.proofs.call.part_of.Goals as goal

pub returns-clause-items : goal.returns-clause-items
returns-clause-items c =
    let own = is_among (map lent c.args.ids.now) in
    let asks = (request_of c.args.request.now).items in
    let answers = (response_of c.args.response.now).items in
    let parts = map ask_of c.in-Some.items.asks.items in
    let shown = map answer_of c.in-Some.items.answers.items in
    let I : Option PartItems → Type 0 = λ o. IfSome o (λ (own_items : PartItems).
    (length c.deref-2.result.now ≤ length c.deref.result.now)
    × ArePartItems own None (take (length c.deref-2.result.now) (map ask_of c.deref.result.now)) (map answer_of c.deref-2.result.now) (map ask_of own_items.asks.items) (map answer_of own_items.answers.items)) in
    let made = subst I c.in-Some.is c.in_ok-items.ensures in
    let K : List Ask → Type 0 = λ xs.
    (length c.deref-2.result.now ≤ length xs) × ArePartItems own None (take (length c.deref-2.result.now) (map ask_of xs)) (map answer_of c.deref-2.result.now) parts shown in
    let A : List Answer → Type 0 = λ ys.
    (length ys ≤ length c.args.request.now.items.items) × ArePartItems own None (take (length ys) asks) (map answer_of ys) parts shown in
    let both = subst A c.deref-2.ensures.value (subst K c.deref.ensures.value made) in
    let asked = length-map c.args.request.now.items.items ask_of in
    let answered = length-map c.args.response.now.items.items answer_of in
    let N : ℕ → Type 0 = λ n. ArePartItems own None (take n asks) answers parts shown in
    let items = subst N (sym answered) both.1 in
    let few : length answers ≤ length asks = omega (arith, both.0, asked, answered) in
    let long = parts_long own None (take (length answers) asks) answers parts shown items ∙ take_long asks (length answers) few in
    let same = length-map c.in-Some.items.asks.items ask_of in
    let all = c.in_ok-with_idle.ensures (omega (arith, long, same, few, c.len.ensures, asked)) in
    let filled = length-map c.in_ok-with_idle.field-0.items ask_of in
    filled_up own asks answers parts (map ask_of c.in_ok-with_idle.field-0.items) all.0 shown few items all.1 (omega (arith, filled, all.2, c.len.ensures, asked)) long
