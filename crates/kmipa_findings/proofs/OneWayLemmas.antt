-- Where nothing is granted, turns that set nothing aside make one step of a call that is taken in one way alone: that of its bare turn.
use Rattle.std.proofs.Common.{◌≡◌, ℕ, ℤ, true, false, List, [], Option, Some, None, refl, sym, ap, subst, arith}
use Rattle.kmipa_ttlv.specs.Tree.{Tree}
use Rattle.kmipa_ttlv.proofs.LawLemmas.{one_spelling_lem}
use Rattle.kmipa_msgs.specs.Messages.{RequestOf, ResponseOf}
use Rattle.kmipa_record.specs.Witnesses.{FillOf, TurnOf, bare_turn}
use Rattle.kmipa_places.specs.Calls.{CallOf, ReadOf, unread, read, IsCall}
use Rattle.kmipa_places.specs.Unread.{is_among}
use Rattle.kmipa_places.proofs.CallLemmas.{one_call}
use Rattle.kmipa_check.specs.Births.{IsBorn}
use Rattle.kmipa_check.specs.Fills.{IsFilled, NoneMissing}
use Rattle.kmipa_check.specs.Grants.{GrantsOf, GrantsNothing}
use Rattle.kmipa_check.specs.Places.{GivesPlaces}
use Rattle.kmipa_check.specs.Steps.{NeedsFill}
use Rattle.kmipa_check.proofs.BornLemmas.{born_itself, born_same}
use Rattle.kmipa_check.proofs.FillLemmas.{filled_itself, filled_same}
use Rattle.kmipa_check.proofs.PlainLemmas.{its_moment}
use Rattle.kmipa_turns.specs.Answered.{IsAnswered, recorded, given, left}
use Rattle.kmipa_turns.specs.Recorded.{RecordedOf, IsItem}
use Rattle.kmipa_turns.specs.Sides.{request_side, response_side}
use Rattle.kmipa_turns.specs.Steps.{Completes, IsExcepted, alone, not_set, anyway, IsStep, MayBeTaken, MaySetAside, StepOf, TakenOf, Takes, takes, WantsOrder}
use Rattle.kmipa_trail.proofs.OneStepLemmas.{one_step_lem}
use Rattle.kmipa_findings.specs.Forced.{IsOneWay}

-- bytes spell one item at most
one_item : (bytes : List ℕ) (a b : Option Tree) → IsItem bytes a → IsItem bytes b → a ≡ b
one_item bytes None None h k = refl
one_item bytes None (Some t) h k = absurd (h t k)
one_item bytes (Some t) None h k = absurd (k t h)
one_item bytes (Some t) (Some u) h k = ap Some (one_spelling_lem t u bytes bytes [] [] h k refl).0

-- a call that has ended has its recorded response, whatever takes it
its_item : (c : RecordedOf) (bytes : List ℕ) (t : TurnOf) (request response : Option Tree) → c.response ≡ Some bytes → IsAnswered c t request response → IsItem bytes response
its_item c bytes t request response has (recorded b is none says) =
    let same : b ≡ bytes = cc in
    let P : List ℕ → Type 0 = λ z. IsItem z response in
    subst P same says
its_item c bytes t request response has (given b is not some says fit) = absurd cc
its_item c bytes t request response has (left is set none) = absurd cc

-- a call that can't be read; or one whose items are taken by place, and none of which waits for a payload
abbrev IsTakenPlainly : CallOf → Type 0
IsTakenPlainly (unread leaving) = Unit {0}
IsTakenPlainly (read x) = (WantsOrder x → ⊥) × (NeedsFill (request_side x) (response_side x) → ⊥)

-- ---- the bare turn does what any other does that sets nothing aside

bare_excepted : (c : RecordedOf) (number : ℤ) (t : TurnOf) (request response : Option Tree) (n : ℕ) → t.asides ≡ [] → IsExcepted c t request response n
    → IsExcepted c (bare_turn number) request response n
bare_excepted c number t request response n none (alone set why is) =
    let P : List ℤ → Type 0 = λ a. is_among a 0 ≡ true in
    let bad : false ≡ true = subst P none set in
    absurd cc
bare_excepted c number t request response n none (not_set not is) = not_set (λ set. (let bad : false ≡ true = set in absurd cc)) is
bare_excepted c number t request response n none (anyway ended unreadable is) = anyway ended unreadable is

by_place : (x : ReadOf) (places : Option (List ℕ)) → (WantsOrder x → ⊥) → MayBeTaken x places → GivesPlaces [] places
by_place x None never may = refl
by_place x (Some places) never may = absurd (never may.0)

module _ (g : GrantsOf) (nothing : GrantsNothing g) where
  bare_completes : (number : ℤ) (x : ReadOf) (t : TurnOf) (full : ReadOf) (places : Option (List ℕ)) → (WantsOrder x → ⊥) → (NeedsFill (request_side x) (response_side x) → ⊥) → Completes g x t full places
      → Completes g x (bare_turn number) full places
  bare_completes number x t full places never complete a =
      let response = filled_same (request_side x) (response_side x) t.fills a.response complete a.filled in
      let request = born_same g (request_side x) (response_side x) t.births a.request nothing.own a.born in
      let F : ResponseOf → Type 0 = λ r. IsFilled (request_side x) (response_side x) [] r in
      let B : RequestOf → Type 0 = λ r. IsBorn g (request_side x) (response_side x) [] r in
      record {
        moment = a.moment;
        timed = its_moment g x.stamp t.moment a.moment nothing a.timed;
        ordered = by_place x places never a.may;
        may = a.may;
        response = a.response;
        filled = subst F (sym response) (filled_itself (request_side x) (response_side x) complete);
        request = a.request;
        born = subst B (sym request) (born_itself g (request_side x) (response_side x));
        is = a.is;
      }

  bare_takes : (c : RecordedOf) (number : ℤ) (t : TurnOf) (request response : Option Tree) (call : CallOf) (stamp : Option ℤ) (taken : TakenOf) (n : ℕ) → t.asides ≡ [] → IsTakenPlainly call
      → Takes g c t request response call stamp taken n → Takes g c (bare_turn number) request response call stamp taken n
  bare_takes c number t request response (unread leaving) stamp taken n none plain a =
      (record { moment = refl; places = refl; fills = refl; births = refl }, a.1, a.2, bare_excepted c number t request response n none a.3)
  bare_takes c number t request response (read x) stamp taken n none plain a =
      (a.0, (a.1.0, a.1.1, bare_completes number x t a.1.0 a.1.1 plain.0 plain.1 a.1.2, a.1.3), a.2)

  bare_step : (c : RecordedOf) (bytes : List ℕ) (t : TurnOf) (s : StepOf) → c.response ≡ Some bytes → t.asides ≡ [] → (i : IsStep g c t s) → IsTakenPlainly i.call → IsStep g c (bare_turn c.number) s
  bare_step c bytes t s has none i plain =
      let P : List ℤ → Type 0 = λ a. IsCall i.request i.response a i.call in
      let Q : List ℤ → Type 0 = λ a. MaySetAside i.call a in
      record {
        named = refl;
        request = i.request;
        asks = i.asks;
        response = i.response;
        answers = recorded bytes has refl (its_item c bytes t i.request i.response has i.answers);
        call = i.call;
        said = subst P none i.said;
        aside = subst Q none i.aside;
        stamp = i.stamp;
        taken = i.taken;
        excepted = i.excepted;
        takes = bare_takes c c.number t i.request i.response i.call i.stamp i.taken i.excepted none plain i.takes;
        is = i.is;
      }

  -- a turn that fills nothing in finds nothing that waits
  plain_call : (c : RecordedOf) (t : TurnOf) (request response : Option Tree) (call : CallOf) (stamp : Option ℤ) (taken : TakenOf) (n : ℕ) → t.fills ≡ [] → IsOneWay taken
      → Takes g c t request response call stamp taken n → IsTakenPlainly call
  plain_call c t request response (unread leaving) stamp taken n none way a = tt
  plain_call c t request response (read x) stamp taken n none way a = (subst P d.is one, λ needs. empty (subst F none d.filled.complete) needs)
    where
      d : Completes g x t a.1.0 a.1.1
      d = a.1.2

      P : ReadOf → Type 0
      P y = WantsOrder y → ⊥

      F : List FillOf → Type 0
      F fills = NoneMissing (request_side x) (response_side x) fills

      one : WantsOrder a.1.0 → ⊥
      one = let W : TakenOf → Type 0 = λ y. IsOneWay y in subst W a.1.3 way

      empty : NoneMissing (request_side x) (response_side x) [] → NeedsFill (request_side x) (response_side x) → ⊥
      empty h needs = let f = h needs.0 needs.1 in absurd (omega (arith, f.1.1))

  pub same_step : (c : RecordedOf) (bytes : List ℕ) (t u : TurnOf) (s v : StepOf) → c.response ≡ Some bytes → t.asides ≡ [] → u.asides ≡ [] → t.fills ≡ [] → IsOneWay s.taken
      → IsStep g c t s → IsStep g c u v → v ≡ s
  same_step c bytes t u s v has none never unfilled way i j =
      let request : i.request ≡ j.request = one_item c.request i.request j.request i.asks j.asks in
      let response : i.response ≡ j.response = one_item bytes i.response j.response (its_item c bytes t i.request i.response has i.answers) (its_item c bytes u j.request j.response has j.answers) in
      let A : List ℤ → Type 0 = λ a. IsCall i.request i.response a i.call in
      let B : List ℤ → Type 0 = λ a. IsCall j.request j.response a j.call in
      let C : Option Tree → Type 0 = λ r. IsCall r j.response [] j.call in
      let D : Option Tree → Type 0 = λ r. IsCall i.request r [] j.call in
      let call : i.call ≡ j.call = one_call i.request i.response [] i.call j.call (subst A none i.said) (subst D (sym response) (subst C (sym request) (subst B never j.said))) in
      let taken : s.taken ≡ i.taken = ap (λ (y : StepOf). y.taken) i.is in
      let W : TakenOf → Type 0 = λ y. IsOneWay y in
      let plain = plain_call c t i.request i.response i.call i.stamp i.taken i.excepted unfilled (subst W taken way) i.takes in
      let Q : CallOf → Type 0 = λ y. IsTakenPlainly y in
      one_step_lem g c (bare_turn c.number) v s (bare_step c bytes u v has never j (subst Q call plain)) (bare_step c bytes t s has none i plain)
