use Rattle.std.proofs.Common.{◌≡◌, ◌≢◌, ◌∙◌, ℤ, List, [], Option, ℕ, length, vec_len, map, option_map, sym, ap, subst, rules}
use mir.Val.{SFits, to_z, of_z}
use mir.Syntax.{w32, w64}
use Rattle.std.proofs.lemmas.Int.{to_z-of_z}
use Rattle.kmipa_msgs.specs.Messages.{ResponseOf, request_of, response_of}
use Rattle.kmipa_record.specs.Entries.{items_of}
use Rattle.kmipa_record.specs.Witnesses.{birth_of, fill_of, turn_of}
use Rattle.kmipa_record.specs.declared.birth.Birth.{Birth}
use Rattle.kmipa_record.specs.declared.fill.Fill.{Fill}
use Rattle.kmipa_check.specs.Bearing.{BirthsRefused}
use Rattle.kmipa_check.specs.Births.{IsBorn}
use Rattle.kmipa_check.specs.Calls.{call_of}
use Rattle.kmipa_check.specs.Fills.{IsFilled}
use Rattle.kmipa_check.specs.Filling.{FillsRefused}
use Rattle.kmipa_check.specs.Grants.{grants_of}
use Rattle.kmipa_check.specs.Moments.{IsMoment, IsUntimely, at_moment}
use Rattle.kmipa_check.specs.Places.{AreTaken, PlacesRefused}
use Rattle.kmipa_check.specs.Steps.{StepOf, given_of, posed_of}
use Rattle.kmipa_check.proofs.OrderLemmas.{empty_list}
use Rattle.kmipa_check.proofs.GivenLemmas.{answer_refuses, moment_refuses, places_refuse, fills_refuse, births_refuse, asides_refuse}
use Rattle.kmipa_check.proofs.turn.step_of_turn.Goals as goal

pub returns-in-Err : goal.returns-in-Err
returns-in-Err c = λ named. answer_refuses (grants_of c.args.grants.now) (call_of c.args.call.now) (turn_of c.args.turn.now) c.in-Err.fault c.in-Err.ensures

pub returns-in_default : goal.returns-in_default
returns-in_default c = λ named.
    let g = grants_of c.args.grants.now in
    let fits : SFits w64 c.response.result.now.stamp = search rules in
    let stamp = to_z-of_z w64 c.response.result.now.stamp fits ∙ ap (λ (r : ResponseOf). r.stamp) c.response.ensures in
    let U : ℤ → Type 0 = λ z. IsUntimely g z c.args.turn.now.moment in
    moment_refuses g (call_of c.args.call.now) (turn_of c.args.turn.now) (given_of c.in-Ok.given) c.in-Ok.ensures (subst U stamp c.in_default.ensures)

pub returns-in-Err-places_given : goal.returns-in-Err-places_given
returns-in-Err-places_given c = λ named.
    let g = grants_of c.args.grants.now in
    let request = request_of c.args.call.now.request in
    let fits : SFits w64 c.response.result.now.stamp = search rules in
    let stamp = to_z-of_z w64 c.response.result.now.stamp fits ∙ ap (λ (r : ResponseOf). r.stamp) c.response.ensures in
    let M : ℤ → Type 0 = λ z. IsMoment g z c.args.turn.now.moment c.in-Some.moment in
    let P : ResponseOf → Type 0 = λ r. PlacesRefused request r c.args.turn.now.places.items c.in-Err-places_given.fault in
    let N : List ℤ → Type 0 = λ ns. PlacesRefused request (response_of c.response-2.result.now) ns c.in-Err-places_given.fault in
    places_refuse g (call_of c.args.call.now) (turn_of c.args.turn.now) (given_of c.in-Ok.given) c.in-Ok.ensures c.in-Some.moment (subst M stamp c.in-Some.ensures) c.in-Err-places_given.fault
    (subst P c.response-2.ensures (subst N c.deref.ensures.value c.in-Err-places_given.ensures))

pub returns-in-Err-filled_in : goal.returns-in-Err-filled_in
returns-in-Err-filled_in c = λ named.
    let g = grants_of c.args.grants.now in
    let request = request_of c.args.call.now.request in
    let fits : SFits w64 c.response.result.now.stamp = search rules in
    let stamp = to_z-of_z w64 c.response.result.now.stamp fits ∙ ap (λ (r : ResponseOf). r.stamp) c.response.ensures in
    let M : ℤ → Type 0 = λ z. IsMoment g z c.args.turn.now.moment c.in-Some.moment in
    let places : Option (List ℕ) = option_map items_of c.in-Ok-places_given.places in
    let R : ResponseOf → Type 0 = λ r. AreTaken request r c.args.turn.now.places.items places in
    let N : List ℤ → Type 0 = λ ns. AreTaken request (response_of c.response-2.result.now) ns places in
    let F : List Fill → Type 0 = λ fs. FillsRefused request (given_of c.in-Ok.given) (map fill_of fs) c.in-Err-filled_in.fault in
    fills_refuse g (call_of c.args.call.now) (turn_of c.args.turn.now) (given_of c.in-Ok.given) c.in-Ok.ensures c.in-Some.moment (subst M stamp c.in-Some.ensures) places
    (subst R c.response-2.ensures (subst N c.deref.ensures.value c.in-Ok-places_given.ensures)) c.in-Err-filled_in.fault (subst F c.deref-3.ensures.value c.in-Err-filled_in.ensures)

pub returns-in-Err-born : goal.returns-in-Err-born
returns-in-Err-born c = λ named.
    let g = grants_of c.args.grants.now in
    let request = request_of c.args.call.now.request in
    let fits : SFits w64 c.response.result.now.stamp = search rules in
    let stamp = to_z-of_z w64 c.response.result.now.stamp fits ∙ ap (λ (r : ResponseOf). r.stamp) c.response.ensures in
    let M : ℤ → Type 0 = λ z. IsMoment g z c.args.turn.now.moment c.in-Some.moment in
    let places : Option (List ℕ) = option_map items_of c.in-Ok-places_given.places in
    let R : ResponseOf → Type 0 = λ r. AreTaken request r c.args.turn.now.places.items places in
    let N : List ℤ → Type 0 = λ ns. AreTaken request (response_of c.response-2.result.now) ns places in
    let F : List Fill → Type 0 = λ fs. IsFilled request (given_of c.in-Ok.given) (map fill_of fs) (given_of c.in-Ok-filled_in.given) in
    let B : ResponseOf → Type 0 = λ r. BirthsRefused g request r (map birth_of c.args.turn.now.births.items) c.in-Err-born.fault in
    let L : List Birth → Type 0 = λ bs. BirthsRefused g request (response_of c.response-3.result.now) (map birth_of bs) c.in-Err-born.fault in
    births_refuse g (call_of c.args.call.now) (turn_of c.args.turn.now) (given_of c.in-Ok.given) c.in-Ok.ensures c.in-Some.moment (subst M stamp c.in-Some.ensures) places
    (subst R c.response-2.ensures (subst N c.deref.ensures.value c.in-Ok-places_given.ensures)) (given_of c.in-Ok-filled_in.given) (subst F c.deref-3.ensures.value c.in-Ok-filled_in.ensures)
    c.in-Err-born.fault (subst B c.response-3.ensures (subst L c.deref-2.ensures.value c.in-Err-born.ensures))

pub returns-then-not-is_empty : goal.returns-then-not-is_empty
returns-then-not-is_empty c = λ named.
    let g = grants_of c.args.grants.now in
    let request = request_of c.args.call.now.request in
    let fits : SFits w64 c.response.result.now.stamp = search rules in
    let stamp = to_z-of_z w64 c.response.result.now.stamp fits ∙ ap (λ (r : ResponseOf). r.stamp) c.response.ensures in
    let M : ℤ → Type 0 = λ z. IsMoment g z c.args.turn.now.moment c.in-Some.moment in
    let places : Option (List ℕ) = option_map items_of c.in-Ok-places_given.places in
    let R : ResponseOf → Type 0 = λ r. AreTaken request r c.args.turn.now.places.items places in
    let N : List ℤ → Type 0 = λ ns. AreTaken request (response_of c.response-2.result.now) ns places in
    let F : List Fill → Type 0 = λ fs. IsFilled request (given_of c.in-Ok.given) (map fill_of fs) (given_of c.in-Ok-filled_in.given) in
    let B : ResponseOf → Type 0 = λ r. IsBorn g request r (map birth_of c.args.turn.now.births.items) (posed_of c.in-Ok-born.posed) in
    let L : List Birth → Type 0 = λ bs. IsBorn g request (response_of c.response-3.result.now) (map birth_of bs) (posed_of c.in-Ok-born.posed) in
    let some : c.args.turn.now.asides.items ≢ [] = search rules in
    asides_refuse g (call_of c.args.call.now) (turn_of c.args.turn.now) (given_of c.in-Ok.given) c.in-Ok.ensures c.in-Some.moment (subst M stamp c.in-Some.ensures) places
    (subst R c.response-2.ensures (subst N c.deref.ensures.value c.in-Ok-places_given.ensures)) (given_of c.in-Ok-filled_in.given) (subst F c.deref-3.ensures.value c.in-Ok-filled_in.ensures)
    (posed_of c.in-Ok-born.posed) (subst B c.response-3.ensures (subst L c.deref-2.ensures.value c.in-Ok-born.ensures)) some

pub returns : goal.returns
returns c = λ named.
    let g = grants_of c.args.grants.now in
    let request = request_of c.args.call.now.request in
    let number : SFits w32 c.args.call.now.number = search rules in
    let fits : SFits w64 c.response.result.now.stamp = search rules in
    let moment : SFits w64 c.in-Some.moment = search rules in
    let stamp = to_z-of_z w64 c.response.result.now.stamp fits ∙ ap (λ (r : ResponseOf). r.stamp) c.response.ensures in
    let M : ℤ → Type 0 = λ z. IsMoment g z c.args.turn.now.moment c.in-Some.moment in
    let places : Option (List ℕ) = option_map items_of c.in-Ok-places_given.places in
    let R : ResponseOf → Type 0 = λ r. AreTaken request r c.args.turn.now.places.items places in
    let N : List ℤ → Type 0 = λ ns. AreTaken request (response_of c.response-2.result.now) ns places in
    let taken = subst R c.response-2.ensures (subst N c.deref.ensures.value c.in-Ok-places_given.ensures) in
    let F : List Fill → Type 0 = λ fs. IsFilled request (given_of c.in-Ok.given) (map fill_of fs) (given_of c.in-Ok-filled_in.given) in
    let filled = subst F c.deref-3.ensures.value c.in-Ok-filled_in.ensures in
    let asked = posed_of c.in-Ok-born.posed in
    let B : ResponseOf → Type 0 = λ r. IsBorn g request r (map birth_of c.args.turn.now.births.items) asked in
    let L : List Birth → Type 0 = λ bs. IsBorn g request (response_of c.response-3.result.now) (map birth_of bs) asked in
    let len : vec_len c.args.turn.now.asides ≡ length c.args.turn.now.asides.items = search rules in
    let none = empty_list c.args.turn.now.asides.items (vec_len c.args.turn.now.asides) c.is_empty.result c.is_empty.ensures c.if-not-is_empty.false len in
    let timed : given_of c.in_ok-at_moment.field-0 ≡ at_moment (given_of c.in-Ok-filled_in.given) c.in-Some.moment = c.in_ok-at_moment.ensures ∙ ap (λ (m : ℤ). at_moment (given_of c.in-Ok-filled_in.given) m) (to_z-of_z w64 c.in-Some.moment moment) in
    let S : ℤ → ResponseOf → ℤ → StepOf = λ n r s. record {
      number = n;
      begin = c.args.call.now.begin;
      end = c.args.call.now.end;
      request = asked;
      response = r;
      stamp = s;
      places = places;
    } in
    record {
      named = named;
      response = given_of c.in-Ok.given;
      answered = c.in-Ok.ensures;
      moment = c.in-Some.moment;
      timed = subst M stamp c.in-Some.ensures;
      places = places;
      ordered = taken.0;
      taken = taken.1;
      full = given_of c.in-Ok-filled_in.given;
      filled = filled;
      asked = asked;
      born = subst B c.response-3.ensures (subst L c.deref-2.ensures.value c.in-Ok-born.ensures);
      no_aside = none;
      is = ap (λ (n : ℤ). S n (given_of c.in_ok-at_moment.field-0) (to_z w64 (of_z w64 c.response.result.now.stamp))) (to_z-of_z w32 c.args.call.now.number number)
          ∙ ap (λ (r : ResponseOf). S c.args.call.now.number r (to_z w64 (of_z w64 c.response.result.now.stamp))) timed
          ∙ ap (λ (s : ℤ). S c.args.call.now.number (at_moment (given_of c.in-Ok-filled_in.given) c.in-Some.moment) s) (stamp ∙ sym filled.stamp);
    }
