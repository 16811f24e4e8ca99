use Rattle.std.proofs.Common.{◌≡◌, ◌∙◌, ℕ, ℤ, List, Option, length, vec_len, map, option_map, ap, subst, rules, arith}
use mir.Val.{SFits}
use mir.Syntax.{w32, w64}
use Rattle.std.proofs.lemmas.Int.{to_z-of_z}
use Rattle.std.proofs.lemmas.List.{length-map}
use Rattle.kmipa_msgs.specs.Messages.{lent}
use Rattle.kmipa_record.specs.Entries.{items_of}
use Rattle.kmipa_record.specs.Witnesses.{turn_of}
use Rattle.kmipa_check.specs.Grants.{grants_of}
use Rattle.kmipa_check.specs.Moments.{IsMoment}
use Rattle.kmipa_places.specs.Calls.{read, read_of}
use Rattle.kmipa_places.specs.Places.{place_of}
use Rattle.kmipa_places.specs.declared.place.Place.{Place}
use Rattle.kmipa_turns.specs.Recorded.{recorded_of}
use Rattle.kmipa_turns.specs.Steps.{MaySetAside, excepted_in, takes}
use Rattle.kmipa_turns.specs.Turning.{AreTaken, IsFull, PlacesRefused}
use Rattle.kmipa_turns.proofs.StepLemmas.{same_step}
use Rattle.kmipa_turns.proofs.TurnLemmas.{asides_refuse, full_refuses, places_refuse, read_made}
use Rattle.kmipa_turns.proofs.readable.read_step.Goals as goal

pub returns-in-Err : goal.returns-in-Err
returns-in-Err c =
    let g = grants_of c.args.grants.now in
    let t = turn_of c.args.turn.now in
    let x = read_of c.args.said in
    let fits : SFits w64 c.args.said.stamp = search rules in
    let M : ℤ → Type 0 = λ z. IsMoment g z t.moment c.in-Some.moment in
    let N : List ℤ → Type 0 = λ ns. PlacesRefused x ns c.in-Err.fault in
    places_refuse g t x c.in-Some.moment (subst M (to_z-of_z w64 c.args.said.stamp fits) c.in-Some.ensures) c.in-Err.fault (subst N c.deref.ensures.value c.in-Err.ensures)

pub returns-in-Err-completed : goal.returns-in-Err-completed
returns-in-Err-completed c =
    let g = grants_of c.args.grants.now in
    let t = turn_of c.args.turn.now in
    let x = read_of c.args.said in
    let fits : SFits w64 c.args.said.stamp = search rules in
    let M : ℤ → Type 0 = λ z. IsMoment g z t.moment c.in-Some.moment in
    let places : Option (List ℕ) = option_map items_of c.in-Ok.places in
    let N : List ℤ → Type 0 = λ ns. AreTaken x ns places in
    full_refuses g t x c.in-Some.moment (subst M (to_z-of_z w64 c.args.said.stamp fits) c.in-Some.ensures) places (subst N c.deref.ensures.value c.in-Ok.ensures) c.in-Err-completed.fault c.in-Err-completed.ensures

pub returns-then-not-may_set_aside : goal.returns-then-not-may_set_aside
returns-then-not-may_set_aside c =
    let g = grants_of c.args.grants.now in
    let t = turn_of c.args.turn.now in
    let x = read_of c.args.said in
    let fits : SFits w64 c.args.said.stamp = search rules in
    let moment : SFits w64 c.in-Some.moment = search rules in
    let M : ℤ → Type 0 = λ z. IsMoment g z t.moment c.in-Some.moment in
    let places : Option (List ℕ) = option_map items_of c.in-Ok.places in
    let N : List ℤ → Type 0 = λ ns. AreTaken x ns places in
    let F : ℤ → Type 0 = λ z. IsFull g x t z (read_of c.in-Ok-completed.full) in
    let A : List ℤ → Type 0 = λ zs. MaySetAside (read x) zs → ⊥ in
    let len : vec_len c.args.said.places ≡ length c.args.said.places.items = search rules in
    let counted : length (map place_of c.args.said.places.items) ≡ c.len-count.result = omega (arith, c.len-count.ensures, len, length-map c.args.said.places.items place_of) in
    asides_refuse g t x c.in-Some.moment (subst M (to_z-of_z w64 c.args.said.stamp fits) c.in-Some.ensures) places (subst N c.deref.ensures.value c.in-Ok.ensures) (read_of c.in-Ok-completed.full)
    (subst F (to_z-of_z w64 c.in-Some.moment moment) c.in-Ok-completed.ensures) (subst A c.deref-2.ensures.value (c.if-not-may_set_aside.ensures (read x) counted))

pub returns : goal.returns
returns c =
    let g = grants_of c.args.grants.now in
    let t = turn_of c.args.turn.now in
    let x = read_of c.args.said in
    let number : SFits w32 c.args.call.now.number = search rules in
    let fits : SFits w64 c.args.said.stamp = search rules in
    let moment : SFits w64 c.in-Some.moment = search rules in
    let M : ℤ → Type 0 = λ z. IsMoment g z t.moment c.in-Some.moment in
    let places : Option (List ℕ) = option_map items_of c.in-Ok.places in
    let N : List ℤ → Type 0 = λ ns. AreTaken x ns places in
    let F : ℤ → Type 0 = λ z. IsFull g x t z (read_of c.in-Ok-completed.full) in
    let A : List ℤ → Type 0 = λ zs. MaySetAside (read x) zs in
    let len : vec_len c.args.said.places ≡ length c.args.said.places.items = search rules in
    let counted : length (map place_of c.args.said.places.items) ≡ c.len-count.result = omega (arith, c.len-count.ensures, len, length-map c.args.said.places.items place_of) in
    read_made g t x c.in-Some.moment (subst M (to_z-of_z w64 c.args.said.stamp fits) c.in-Some.ensures) places (subst N c.deref.ensures.value c.in-Ok.ensures) (read_of c.in-Ok-completed.full)
    (subst F (to_z-of_z w64 c.in-Some.moment moment) c.in-Ok-completed.ensures) (recorded_of c.args.call.now) _ (subst A c.deref-2.ensures.value (c.if-not-may_set_aside.ensures (read x) counted))
    (same_step _ c.args.call.now.number (lent c.args.call.now.client) c.args.call.now.begin c.args.call.now.end _ c.args.said.stamp (takes (read_of c.in-Ok-completed.full) places) _ (excepted_in x.places) (to_z-of_z w32 c.args.call.now.number number)
    (to_z-of_z w64 c.args.said.stamp fits) (c.excepted_in-excepted.ensures ∙ ap (λ (ps : List Place). excepted_in (map place_of ps)) c.as_slice.ensures.value))
