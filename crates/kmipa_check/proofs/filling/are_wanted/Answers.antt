use Rattle.std.proofs.Common.{◌≡◌, ◌≤ℤ◌, ◌∙◌, ℤ, pos, map, sym, subst, rules, arith}
use mir.Val.{SFits, to_z, of_z}
use mir.Syntax.{w32}
use Rattle.std.proofs.lemmas.Int.{to_z-of_z}
use Rattle.std.proofs.lemmas.List.{length-map}
use Rattle.kmipa_msgs.specs.Messages.{request_of, response_of}
use Rattle.kmipa_record.specs.Witnesses.{FillOf, fill_of}
use Rattle.kmipa_record.specs.declared.fill.Fill.{Fill}
use Rattle.kmipa_check.specs.Fills.{IsWantedItem}
use Rattle.kmipa_check.specs.Numbers.{place_in, is_noted}
use Rattle.kmipa_check.proofs.PlaceLemmas.{mapped_at}
use Rattle.kmipa_check.proofs.ItemLemmas.{once_none, once_more, first_item, second_item}
use Rattle.kmipa_check.proofs.FillingLemmas.{wanted_all, numbered_all, wanted_not, wanted_twice, fits_small}
use Rattle.kmipa_check.proofs.filling.are_wanted.Goals as goal

pub fills-init : goal.fills-init
fills-init c = once_none (λ (f : FillOf). f.item) (λ item. IsWantedItem (request_of c.args.request.now) (response_of c.args.response.now) item × (item ≤ℤ pos 0x7FFF_FFFF)) (map fill_of c.args.fills.now)

pub returns-then-not-is_first-clause-decided : goal.returns-then-not-is_first-clause-decided
returns-then-not-is_first-clause-decided c =
    let first : c.is_first.result ≡ is_noted (place_in c.args.places.now c.index-fills-at.result.item) c.fills.at = search rules in
    let there = mapped_at fill_of c.args.fills.now c.fills.at c.index-fills-at.result c.fills-test.true c.index-fills-at.is in
    let s = second_item fill_of (λ (f : FillOf). f.item) c.args.fills.now c.args.places.now c.requires c.fills.at (fill_of c.index-fills-at.result) there (sym first ∙ c.if-not-is_first.true) in
    wanted_twice (request_of c.args.request.now) (response_of c.args.response.now) (map fill_of c.args.fills.now) c.fills.at s.0 (fill_of c.index-fills-at.result) s.1 there s.2 s.3 s.4

pub returns-then-not-is_wanted_item-clause-decided : goal.returns-then-not-is_wanted_item-clause-decided
returns-then-not-is_wanted_item-clause-decided c =
    let fits : SFits w32 c.index-fills-at.result.item = search rules in
    let there = mapped_at fill_of c.args.fills.now c.fills.at c.index-fills-at.result c.fills-test.true c.index-fills-at.is in
    let P : ℤ → Type 0 = λ z. IsWantedItem (request_of c.args.request.now) (response_of c.args.response.now) z → ⊥ in
    let Q : Fill → Type 0 = λ f. IsWantedItem (request_of c.args.request.now) (response_of c.args.response.now) (to_z w32 (of_z w32 f.item)) → ⊥ in
    wanted_not (request_of c.args.request.now) (response_of c.args.response.now) (map fill_of c.args.fills.now) c.fills.at (fill_of c.index-fills-at.result) there
    (subst P (to_z-of_z w32 c.index-fills-at.result.item fits) (subst Q (sym c.index-fills-at.is) c.if-not-is_wanted_item.ensures))

pub fills-preserved : goal.fills-preserved
fills-preserved c =
    let fits : SFits w32 c.index-fills-at.result.item = search rules in
    let first : c.is_first.result ≡ is_noted (place_in c.args.places.now c.index-fills-at.result.item) c.fills.at = search rules in
    let there = mapped_at fill_of c.args.fills.now c.fills.at c.index-fills-at.result c.fills-test.true c.index-fills-at.is in
    let P : ℤ → Type 0 = λ z. IsWantedItem (request_of c.args.request.now) (response_of c.args.response.now) z in
    let Q : Fill → Type 0 = λ f. IsWantedItem (request_of c.args.request.now) (response_of c.args.response.now) (to_z w32 (of_z w32 f.item)) in
    once_more (λ (f : FillOf). f.item) (λ item. IsWantedItem (request_of c.args.request.now) (response_of c.args.response.now) item × (item ≤ℤ pos 0x7FFF_FFFF)) (map fill_of c.args.fills.now) c.fills.at
    (fill_of c.index-fills-at.result) there
    (subst P (to_z-of_z w32 c.index-fills-at.result.item fits) (subst Q (sym c.index-fills-at.is) c.if-not-is_wanted_item.ensures), fits_small c.index-fills-at.result.item fits)
    (first_item fill_of (λ (f : FillOf). f.item) c.args.fills.now c.args.places.now c.requires c.fills.at c.index-fills-at.result.item (sym first ∙ c.if-not-is_first.false)) c.fills.invariant

pub returns-clause-decided : goal.returns-clause-decided
returns-clause-decided c =
    wanted_all (request_of c.args.request.now) (response_of c.args.response.now) (map fill_of c.args.fills.now) c.fills.at c.fills.invariant (omega (arith, c.fills-test.false, length-map c.args.fills.now fill_of))

pub returns-clause-numbered : goal.returns-clause-numbered
returns-clause-numbered c = λ t.
    numbered_all (request_of c.args.request.now) (response_of c.args.response.now) (map fill_of c.args.fills.now) c.fills.at c.fills.invariant (omega (arith, c.fills-test.false, length-map c.args.fills.now fill_of))
