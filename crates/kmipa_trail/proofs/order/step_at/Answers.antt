use Rattle.std.proofs.Common.{◌≡◌, ◌∙◌, sym, rules}
use Rattle.std.proofs.lemmas.Option.{get_or_from_slice_get}
use Rattle.kmipa_check.specs.Grants.{grants_of}
use Rattle.kmipa_check.specs.Numbers.{place_in, is_noted}
use Rattle.kmipa_trail.proofs.OrderLemmas.{turn_unknown, turn_twice, turn_reported}
use Rattle.kmipa_trail.proofs.order.step_at.Goals as goal

pub returns-in_default : goal.returns-in_default
returns-in_default c =
    let noted : c.place.result ≡ place_in c.args.numbers.now.known c.index-turns-place.result.call = search rules in
    turn_unknown (grants_of c.args.grants.now) c.args.calls.now c.args.turns.now c.args.numbers.now.known c.args.numbers.now.named c.requires.known c.requires.named c.args.place c.index-turns-place.result c.requires.within c.index-turns-place.is
    (sym noted ∙ c.in_default.is)

pub returns-then-not-is_first : goal.returns-then-not-is_first
returns-then-not-is_first c =
    let noted : c.place.result ≡ place_in c.args.numbers.now.known c.index-turns-place.result.call = search rules in
    let first : c.is_first.result ≡ is_noted (place_in c.args.numbers.now.named c.index-turns-place.result.call) c.args.place = search rules in
    turn_twice (grants_of c.args.grants.now) c.args.calls.now c.args.turns.now c.args.numbers.now.known c.args.numbers.now.named c.requires.known c.requires.named c.args.place c.index-turns-place.result c.requires.within c.index-turns-place.is
    c.in-Some.at (sym noted ∙ c.in-Some.is) (sym first ∙ c.if-not-is_first.true)

pub returns : goal.returns
returns c =
    let noted : c.place.result ≡ place_in c.args.numbers.now.known c.index-turns-place.result.call = search rules in
    let first : c.is_first.result ≡ is_noted (place_in c.args.numbers.now.named c.index-turns-place.result.call) c.args.place = search rules in
    turn_reported (grants_of c.args.grants.now) c.args.calls.now c.args.turns.now c.args.numbers.now.known c.args.numbers.now.named c.requires.known c.requires.named c.args.place c.index-turns-place.result c.requires.within c.index-turns-place.is
    c.in-Some.at (sym noted ∙ c.in-Some.is) c.call_at.result.now (sym (get_or_from_slice_get c.args.calls.now c.in-Some.at c.call_at.result.now c.call_at.result.now c.call_at.ensures)) (sym first ∙ c.if-not-is_first.false) c.step_of_turn.result c.step_of_turn.ensures
