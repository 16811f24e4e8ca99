use Rattle.std.proofs.Common.{◌≡◌, ◌≤ℤ◌, ◌∙◌, ℤ, pos, map, sym, subst, rules, arith}
use mir.Val.{SFits, to_z, of_z}
use mir.Syntax.{w32}
use Rattle.std.proofs.lemmas.Int.{to_z-of_z}
use Rattle.std.proofs.lemmas.List.{length-map}
use Rattle.kmipa_msgs.specs.Messages.{request_of, response_of}
use Rattle.kmipa_record.specs.Witnesses.{BirthOf, birth_of}
use Rattle.kmipa_record.specs.declared.birth.Birth.{Birth}
use Rattle.kmipa_check.specs.Births.{IsBirthWanted}
use Rattle.kmipa_check.specs.Numbers.{place_in, is_noted}
use Rattle.kmipa_check.proofs.PlaceLemmas.{mapped_at}
use Rattle.kmipa_check.proofs.ItemLemmas.{once_none, once_more, first_item, second_item}
use Rattle.kmipa_check.proofs.BirthLemmas.{births_all, births_numbered, birth_not, birth_twice}
use Rattle.kmipa_check.proofs.FillingLemmas.{fits_small}
use Rattle.kmipa_check.proofs.births.are_births_wanted.Goals as goal

pub births-init : goal.births-init
births-init c = once_none (λ (b : BirthOf). b.item) (λ item. IsBirthWanted (request_of c.args.request.now) (response_of c.args.response.now) item × (item ≤ℤ pos 0x7FFF_FFFF)) (map birth_of c.args.births.now)

pub returns-then-not-is_first-clause-decided : goal.returns-then-not-is_first-clause-decided
returns-then-not-is_first-clause-decided c =
    let first : c.is_first.result ≡ is_noted (place_in c.args.places.now c.index-births-at.result.item) c.births.at = search rules in
    let there = mapped_at birth_of c.args.births.now c.births.at c.index-births-at.result c.births-test.true c.index-births-at.is in
    let s = second_item birth_of (λ (b : BirthOf). b.item) c.args.births.now c.args.places.now c.requires c.births.at (birth_of c.index-births-at.result) there (sym first ∙ c.if-not-is_first.true) in
    birth_twice (request_of c.args.request.now) (response_of c.args.response.now) (map birth_of c.args.births.now) c.births.at s.0 (birth_of c.index-births-at.result) s.1 there s.2 s.3 s.4

pub returns-then-not-is_birth_wanted-clause-decided : goal.returns-then-not-is_birth_wanted-clause-decided
returns-then-not-is_birth_wanted-clause-decided c =
    let fits : SFits w32 c.index-births-at.result.item = search rules in
    let there = mapped_at birth_of c.args.births.now c.births.at c.index-births-at.result c.births-test.true c.index-births-at.is in
    let P : ℤ → Type 0 = λ z. IsBirthWanted (request_of c.args.request.now) (response_of c.args.response.now) z → ⊥ in
    let Q : Birth → Type 0 = λ b. IsBirthWanted (request_of c.args.request.now) (response_of c.args.response.now) (to_z w32 (of_z w32 b.item)) → ⊥ in
    birth_not (request_of c.args.request.now) (response_of c.args.response.now) (map birth_of c.args.births.now) c.births.at (birth_of c.index-births-at.result) there
    (subst P (to_z-of_z w32 c.index-births-at.result.item fits) (subst Q (sym c.index-births-at.is) c.if-not-is_birth_wanted.ensures))

pub births-preserved : goal.births-preserved
births-preserved c =
    let fits : SFits w32 c.index-births-at.result.item = search rules in
    let first : c.is_first.result ≡ is_noted (place_in c.args.places.now c.index-births-at.result.item) c.births.at = search rules in
    let there = mapped_at birth_of c.args.births.now c.births.at c.index-births-at.result c.births-test.true c.index-births-at.is in
    let P : ℤ → Type 0 = λ z. IsBirthWanted (request_of c.args.request.now) (response_of c.args.response.now) z in
    let Q : Birth → Type 0 = λ b. IsBirthWanted (request_of c.args.request.now) (response_of c.args.response.now) (to_z w32 (of_z w32 b.item)) in
    once_more (λ (b : BirthOf). b.item) (λ item. IsBirthWanted (request_of c.args.request.now) (response_of c.args.response.now) item × (item ≤ℤ pos 0x7FFF_FFFF)) (map birth_of c.args.births.now) c.births.at
    (birth_of c.index-births-at.result) there
    (subst P (to_z-of_z w32 c.index-births-at.result.item fits) (subst Q (sym c.index-births-at.is) c.if-not-is_birth_wanted.ensures), fits_small c.index-births-at.result.item fits)
    (first_item birth_of (λ (b : BirthOf). b.item) c.args.births.now c.args.places.now c.requires c.births.at c.index-births-at.result.item (sym first ∙ c.if-not-is_first.false)) c.births.invariant

pub returns-clause-decided : goal.returns-clause-decided
returns-clause-decided c =
    births_all (request_of c.args.request.now) (response_of c.args.response.now) (map birth_of c.args.births.now) c.births.at c.births.invariant (omega (arith, c.births-test.false, length-map c.args.births.now birth_of))

pub returns-clause-numbered : goal.returns-clause-numbered
returns-clause-numbered c = λ t.
    births_numbered (request_of c.args.request.now) (response_of c.args.response.now) (map birth_of c.args.births.now) c.births.at c.births.invariant (omega (arith, c.births-test.false, length-map c.args.births.now birth_of))
