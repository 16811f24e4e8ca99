use Rattle.std.proofs.Common.{◌≡◌, ◌≢◌, ◌↔◌, IsTrue, MatchOption, List, [], Option, ℕ, refl, subst, rules}
use Rattle.std.specs.Prelude.{Vec}
use Rattle.std.specs.declared.alloc.Global.{Global}
use Rattle.kmipa_batch.specs.Orders.{AreTakingOrder}
use Rattle.kmipa_bundle.specs.Shapes.{request_as, response_as}
use Rattle.kmipa_check.specs.Places.{place_numbers}
use Rattle.kmipa_places.specs.Calls.{read_of}
use Rattle.kmipa_turns.proofs.OrderLemmas.{no_order}
use Rattle.kmipa_turns.proofs.placed.places_given.Goals as goal

pub returns-then-not-branch : goal.returns-then-not-branch
returns-then-not-branch c =
    let x = read_of c.args.said.now in
    let some : c.args.numbers.now ≢ [] = search rules in
    let M : Option (Vec ℕ Global) → Type 0 = λ o. MatchOption o ((places : List ℕ) → c.args.numbers.now ≡ place_numbers places → ⊥) (λ places. c.args.numbers.now ≡ place_numbers places.items) in
    let N : List ℕ → Type 0 = λ places. IsTrue c.in_ok-is_taking_order.field-0 ↔ AreTakingOrder (request_as x) (response_as x) places in
    no_order x c.args.numbers.now c.in-Some.order.items c.in_ok-is_taking_order.field-0 some (c.if-not-wants_order.ensures.0 refl) (subst M c.in-Some.is c.in_ok-order.ensures)
    (subst N c.deref.ensures.value c.in_ok-is_taking_order.ensures) c.if-not-branch.true
