use Rattle.std.proofs.Common.{◌≡◌, ◌∙◌, ◌<◌, ◌+◌, [], ◌∷◌, ℕ, List, length, map, option_map, vec_len, refl, sym, ap, subst, rules, arith}
use Rattle.std.proofs.lemmas.List.{length-map, map-append}
use Rattle.kmipa_msgs.specs.Messages.{AskOf, ask_of}
use Rattle.kmipa_record.specs.Witnesses.{birth_of}
use Rattle.kmipa_check.specs.Bearing.{AreBornUpTo}
use Rattle.kmipa_check.specs.Grants.{grants_of}
use Rattle.kmipa_check.proofs.BornLemmas.{ask_born, born_more, born_none}
use Rattle.kmipa_check.proofs.PlaceLemmas.{mapped_at}
use Rattle.kmipa_check.proofs.completing.completed.Goals as goal

pub items-init : goal.items-init
items-init c =
    born_none (grants_of c.args.grants.now) (map ask_of c.args.request.now.items.items) (map birth_of c.args.births.now) (map ask_of c.in_ok-items.items.items)
    (ap (map ask_of) c.in_ok-items.ensures.items)

pub items-preserved : goal.items-preserved
items-preserved c =
    let g = grants_of c.args.grants.now in
    let items = c.args.request.now.items.items in
    let asks = map ask_of items in
    let births = map birth_of c.args.births.now in
    let ask = ask_of c.index-ask.result.now in
    let full = ask_of c.in_ok-full.full in
    let below : c.items.place < length items = search rules in
    let there = mapped_at ask_of items c.items.place c.index-ask.result.now below c.index-ask.ensures in
    let born = ask_born g births c.items.place ask full (option_map (λ b. birth_of b.now) c.birth_for-birth.result) c.birth_for-birth.ensures c.in_ok-full.ensures in
    let P : List AskOf → Type 0 = λ l. AreBornUpTo g asks births (c.items.place + 1) l in
    subst P (sym (ap (map ask_of) c.in_ok-push.ensures.items ∙ map-append ask_of c.items.items.items (c.in_ok-full.full ∷ [])))
    (born_more g asks births c.items.place (map ask_of c.items.items.items) ask full there born c.items.invariant)

pub returns : goal.returns
returns c =
    let items = c.args.request.now.items in
    let asks = map ask_of items.items in
    let long : vec_len items ≡ length items.items = search rules in
    let whole : c.items.place ≡ length asks = omega (arith, c.items-test.false, c.items.invariant.within, long, length-map items.items ask_of) in
    let P : ℕ → Type 0 = λ n. AreBornUpTo (grants_of c.args.grants.now) asks (map birth_of c.args.births.now) n (map ask_of c.items.items.items) in
    record { option = refl; ordered = refl; items = subst P whole c.items.invariant }
