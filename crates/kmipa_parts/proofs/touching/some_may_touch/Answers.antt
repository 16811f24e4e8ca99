use Rattle.std.proofs.Common.{◌≡◌, ◌∙◌, List, map, false, Contains, sym, subst, arith}
use Rattle.std.proofs.lemmas.List.{take_all}
use Rattle.kmipa_check.proofs.PlaceLemmas.{contains_at, mapped_at}
use Rattle.kmipa_msgs.specs.Messages.{AskOf, ask_of, lent}
use Rattle.kmipa_msgs.specs.declared.request.Ask.{Ask}
use Rattle.kmipa_parts.specs.Parts.{is_among, may_touch}
use Rattle.kmipa_parts.proofs.UntouchedLemmas.{one_more}
use Rattle.kmipa_parts.proofs.touching.some_may_touch.Goals as goal

pub returns-then-item_may_touch : goal.returns-then-item_may_touch
returns-then-item_may_touch c =
    let asks = c.args.asks.now in
    let i = c.asks.ask-index in
    let x = c.ask-item.result in
    (ask_of x, contains_at (map ask_of asks) i (ask_of x) (mapped_at ask_of asks i x c.asks-test.true c.ask-item.is), sym c.item_may_touch.ensures ∙ c.if-item_may_touch.true)

pub asks-preserved : goal.asks-preserved
asks-preserved c =
    one_more (is_among (map lent c.args.ids.now)) c.args.asks.now c.asks.ask-index c.ask-item.result c.asks-test.true c.ask-item.is c.asks.invariant (sym c.item_may_touch.ensures ∙ c.if-item_may_touch.false)

pub returns : goal.returns
returns c = λ some.
    let P : List Ask → Type 0 = λ xs. (ask : AskOf) → Contains (map ask_of xs) ask → may_touch (is_among (map lent c.args.ids.now)) ask.asked ≡ false in
    let none = subst P (take_all c.asks.ask-index c.args.asks.now (omega (arith, c.asks-test.false))) c.asks.invariant some.0 some.1 in
    let both = sym some.2 ∙ none in
    let bad : ⊥ = cc in
    bad
