-- One judged place of a call, taken.
use Rattle.std.proofs.Common.{◌≡◌, ◌∙◌, ◌&&◌, ◌||◌, inl, inr, not, is_some, refl, ap, sym, subst, ℕ, ℤ, Bool, true, false, if◌then◌else◌, List, Option, Some, None, Result, Ok, Err}
use Rattle.std.proofs.lemmas.Bool.{and_parts, or_parts}
use Rattle.kmipa_store.specs.Ledger.{LedgerState}
use Rattle.kmipa_store.specs.Choices.{Choice}
use Rattle.kmipa_msgs.specs.Messages.{RulesOf, AskedOf, AskOf, AnswerOf, PayloadOf, locates, located}
use Rattle.kmipa_msgs.specs.declared.response.Status.{Status}
use Rattle.kmipa_msgs.specs.declared.response.Status.TheVariants.{Success, Undone}
use Rattle.kmipa_ops.specs.Blame.{lowest}
use Rattle.kmipa_ops.specs.declared.why.Why.{Why}
use Rattle.kmipa_ops.specs.declared.why.Refusal.{Refusal}
use Rattle.kmipa_ops.specs.declared.why.Refusal.TheVariants.{Impossible, Memory}
use Rattle.kmipa_passed.specs.Leaving.{HeldOf, held_of}
use Rattle.kmipa_passed.specs.declared.leaving.Held.{Held}
use Rattle.kmipa_aside.specs.Becoming.{stand_in}
use Rattle.kmipa_aside.specs.Cases.{case}
use Rattle.kmipa_aside.specs.Does.{DoesExcused, is_as_ever}
use Rattle.kmipa_aside.specs.Ever.{DoesPlain, is_plain, judged_by}
use Rattle.kmipa_aside.specs.Explains.{Deed, Refutes, Took, world}
use Rattle.kmipa_aside.specs.Listing.{DoesListing, is_listing}
use Rattle.kmipa_aside.specs.Lists.{is_touched, touched_by}
use Rattle.kmipa_aside.specs.Graves.{body_of, grave, new_by}
use Rattle.kmipa_aside.specs.Reborn.{DoesReborn, is_reborn, lowest_beside}
use Rattle.kmipa_aside.specs.Places.{DoesJudged, PlacesWithoutAsides, TakenPlace, excused, judged, listing, plain, reborn}
use Rattle.kmipa_aside.specs.Standing.{StandOf}
use Rattle.kmipa_aside.specs.Taking.{NoBytes, TakenAsEver, TakenExcused, TakenListing, TakenReborn, Tells, frame_lowest, listing_lowest}
use Rattle.kmipa_aside.specs.Worlds.{WorldOf, stand}
use Rattle.kmipa_aside.specs.declared.case.Case.TheVariants.{AsEver}
use Rattle.kmipa_aside.proofs.EverLemmas.{as_ever_without_asides, none_dead, none_touched, plain_without_asides}
use Rattle.kmipa_aside.proofs.NearLemmas.{stand_world}

-- another deed that does the same in each world before
module _ (does other : Deed) (tells told : List ℕ → Type 0) (s : LedgerState) (before : HeldOf)
    (to : (c : Choice) (w : WorldOf) (h : HeldOf) → does (world c s.now) before w h → other (world c s.now) before w h)
    (back : (c : Choice) (w : WorldOf) (h : HeldOf) → other (world c s.now) before w h → does (world c s.now) before w h) where
  pub took_as : ((bytes : List ℕ) → tells bytes → told bytes) → (u : LedgerState) (after : HeldOf) → Took does tells s before u after → Took other told s before u after
  took_as tell u after x = record {
    explains = record {
      sound = λ c h. let r = x.explains.sound c h in (r.0, to c (world c u.now) after r.1);
      complete = λ c h w y d. x.explains.complete c h w y (back c w y d);
      learns = λ number bytes e. elim (x.explains.learns number bytes e) [ inl y ↦ inl y | inr y ↦ inr (tell bytes y) ];
      grows = x.explains.grows;
      extends = x.explains.extends;
      apart = x.explains.apart;
    };
    sound = x.sound;
    marks = x.marks;
  }

  pub refutes_as : Refutes does s.now before → Refutes other s.now before
  refutes_as x = record { never = λ c h w y d. x.never c h w y (back c w y d) }

not_true : (b : Bool) → not b ≡ true → b ≡ false
not_true true e = let bad : ⊥ = cc in absurd bad
not_true false e = refl

-- a Locate makes nothing
none_new : (x : StandOf) (status : Status) (asked : AskedOf) (payload : Option PayloadOf) → touched_by status x asked payload ≡ true → new_by status asked payload ≡ None
none_new x Success (locates q) (Some (located ids)) e = refl
none_new x Undone (locates q) (Some (located ids)) e = refl
none_new x status asked payload e = let bad : ⊥ = cc in absurd bad

module _ (rules : RulesOf) (t : ℤ) (ask : AskOf) (answer : AnswerOf) (s : LedgerState) (before : HeldOf) where
  abbrev is_ever : StandOf → Bool
  is_ever x = is_as_ever (case rules x before ask answer)

  abbrev in_ledger : StandOf
  in_ledger = stand_in s.now

  ever_in : (c : Choice) (b : Bool) → is_ever in_ledger ≡ b → is_ever (stand (world c s.now)) ≡ b
  ever_in c b e = ap is_ever (stand_world c s.now) ∙ e

  touched_in : (c : Choice) (b : Bool) → is_touched in_ledger ask answer ≡ b → is_touched (stand (world c s.now)) ask answer ≡ b
  touched_in c b e = ap (λ (x : StandOf). is_touched x ask answer) (stand_world c s.now) ∙ e

  clash : {A : Type 0} (b : Bool) → b ≡ true → b ≡ false → A
  clash b e f = let bad : true ≡ false = sym e ∙ f in let none : ⊥ = cc in absurd none

  -- one that is plain lists nothing that is set aside, and has no grave
  plain_parts : (x : StandOf) → is_plain rules x before ask answer ≡ true → (is_ever x ≡ true) × (is_touched x ask answer ≡ false) × (is_some (grave x ask answer) ≡ false)
  plain_parts x e =
      let p = and_parts (is_ever x) (not (is_touched x ask answer || is_some (grave x ask answer))) e in
      let q = or_parts (is_touched x ask answer) (is_some (grave x ask answer)) (not_true (is_touched x ask answer || is_some (grave x ask answer)) p.1) in
      (p.0, q.0, q.1)

  -- a Locate has none
  no_grave : (x : StandOf) → is_touched x ask answer ≡ true → is_some (grave x ask answer) ≡ false
  no_grave x e = ap (λ (o : Option (List ℕ)). is_some (body_of x o)) (none_new x answer.status ask.asked answer.payload e)

  grave_in : (c : Choice) (b : Bool) → is_some (grave in_ledger ask answer) ≡ b → is_some (grave (stand (world c s.now)) ask answer) ≡ b
  grave_in c b e = ap (λ (x : StandOf). is_some (grave x ask answer)) (stand_world c s.now) ∙ e

  -- one of the four alone is possible
  pub only_excused : is_ever in_ledger ≡ false → (c : Choice) (w : WorldOf) (h : HeldOf) → DoesJudged rules t ask answer (world c s.now) before w h
      → DoesExcused rules t ask answer (world c s.now) before w h
  only_excused not_ever c w h (excused d) = d
  only_excused not_ever c w h (plain d) =
      clash (is_ever (stand (world c s.now))) (plain_parts (stand (world c s.now)) d.plain).0 (ever_in c false not_ever)
  only_excused not_ever c w h (listing d) =
      clash (is_ever (stand (world c s.now))) (and_parts (is_ever (stand (world c s.now))) (is_touched (stand (world c s.now)) ask answer) d.listing).0 (ever_in c false not_ever)
  only_excused not_ever c w h (reborn d) =
      clash (is_ever (stand (world c s.now))) (and_parts (is_ever (stand (world c s.now))) (is_some (grave (stand (world c s.now)) ask answer)) d.reborn).0 (ever_in c false not_ever)

  pub only_listing : is_ever in_ledger ≡ true → is_touched in_ledger ask answer ≡ true → (c : Choice) (w : WorldOf) (h : HeldOf) → DoesJudged rules t ask answer (world c s.now) before w h
      → DoesListing rules t ask answer (world c s.now) before w h
  only_listing ever lists c w h (excused d) = clash (is_ever (stand (world c s.now))) (ever_in c true ever) d.free
  only_listing ever lists c w h (plain d) = clash (is_touched (stand (world c s.now)) ask answer) (touched_in c true lists) (plain_parts (stand (world c s.now)) d.plain).1
  only_listing ever lists c w h (listing d) = d
  only_listing ever lists c w h (reborn d) =
      let x : StandOf = stand (world c s.now) in
      clash (is_some (grave x ask answer)) (and_parts (is_ever x) (is_some (grave x ask answer)) d.reborn).1 (no_grave x (touched_in c true lists))

  pub only_reborn : is_ever in_ledger ≡ true → is_some (grave in_ledger ask answer) ≡ true → (c : Choice) (w : WorldOf) (h : HeldOf) → DoesJudged rules t ask answer (world c s.now) before w h
      → DoesReborn rules t ask answer (world c s.now) before w h
  only_reborn ever dug c w h (excused d) = clash (is_ever (stand (world c s.now))) (ever_in c true ever) d.free
  only_reborn ever dug c w h (plain d) = clash (is_some (grave (stand (world c s.now)) ask answer)) (grave_in c true dug) (plain_parts (stand (world c s.now)) d.plain).2
  only_reborn ever dug c w h (listing d) =
      let x : StandOf = stand (world c s.now) in
      clash (is_some (grave x ask answer)) (grave_in c true dug) (no_grave x (and_parts (is_ever x) (is_touched x ask answer) d.listing).1)
  only_reborn ever dug c w h (reborn d) = d

  pub only_plain : is_plain rules in_ledger before ask answer ≡ true → (c : Choice) (w : WorldOf) (h : HeldOf) → DoesJudged rules t ask answer (world c s.now) before w h
      → DoesPlain rules t ask answer (world c s.now) before w h
  only_plain is c w h (excused d) = clash (is_ever (stand (world c s.now))) (ever_in c true (plain_parts in_ledger is).0) d.free
  only_plain is c w h (plain d) = d
  only_plain is c w h (listing d) =
      let x : StandOf = stand (world c s.now) in
      clash (is_touched x ask answer) (and_parts (is_ever x) (is_touched x ask answer) d.listing).1 (touched_in c false (plain_parts in_ledger is).1)
  only_plain is c w h (reborn d) =
      let x : StandOf = stand (world c s.now) in
      clash (is_some (grave x ask answer)) (and_parts (is_ever x) (is_some (grave x ask answer)) d.reborn).1 (grave_in c false (plain_parts in_ledger is).2)

  -- the lowest reason, by its case
  abbrev of_listing : Option Why
  of_listing = listing_lowest rules s.now before t ask answer

  abbrev of_birth : Option Why
  of_birth = lowest_beside rules s.now before t ask answer (grave in_ledger ask answer)

  abbrev of_frame : Option Why
  of_frame = frame_lowest ask answer

  abbrev chosen : Bool → Bool → Option Why
  chosen ever lists = if ever then (if lists then of_listing else of_birth) else of_frame

  abbrev lists_here : Bool
  lists_here = is_touched in_ledger ask answer

  place_excused : (after : Held) (u : LedgerState) → TakenExcused rules s before t ask answer (Ok (Some after)) u → TakenPlace rules s before t (judged ask answer) (Ok after) u
  place_excused after u k =
      let c : Choice = k.sound.choice.0 in
      let d = k.explains.sound c k.sound.choice.1 in
      let not_ever : is_ever in_ledger ≡ false = ap is_ever (sym (stand_world c s.now)) ∙ d.1.free in
      took_as (DoesExcused rules t ask answer) (DoesJudged rules t ask answer) NoBytes (Tells ask answer) s before (λ e w h y. excused y) (only_excused not_ever) (λ bytes e. absurd e) u (held_of after)
      k

  place_unexcused : (refusal : Refusal) (u : LedgerState) → TakenExcused rules s before t ask answer (Err refusal) u → TakenPlace rules s before t (judged ask answer) (Err refusal) u
  place_unexcused (Impossible why) u k = (
    ap (λ (b : Bool). chosen b lists_here) k.0 ∙ k.1,
    refutes_as (DoesExcused rules t ask answer) (DoesJudged rules t ask answer) NoBytes (Tells ask answer) s before (λ e w h y. excused y) (only_excused k.0) k.2,
    k.3,
  )
  place_unexcused Memory u k = k

  listing_is : is_listing rules in_ledger before ask answer ≡ true → (is_ever in_ledger ≡ true) × (lists_here ≡ true)
  listing_is e = let p = and_parts (is_ever in_ledger) lists_here e in (p.0, p.1)

  place_listing : (after : Held) (u : LedgerState) → TakenListing rules s before t ask answer (Ok (Some after)) u → TakenPlace rules s before t (judged ask answer) (Ok after) u
  place_listing after u k =
      let c : Choice = k.sound.choice.0 in
      let d = k.explains.sound c k.sound.choice.1 in
      let p = listing_is (ap (λ (x : StandOf). is_listing rules x before ask answer) (sym (stand_world c s.now)) ∙ d.1.listing) in
      took_as (DoesListing rules t ask answer) (DoesJudged rules t ask answer) (Tells ask answer) (Tells ask answer) s before (λ e w h y. listing y) (only_listing p.0 p.1) (λ bytes e. e) u
      (held_of after) k

  place_unlisted : (refusal : Refusal) (u : LedgerState) → TakenListing rules s before t ask answer (Err refusal) u → TakenPlace rules s before t (judged ask answer) (Err refusal) u
  place_unlisted (Impossible why) u k =
      let p = listing_is k.0 in (
        ap (λ (b : Bool). chosen b lists_here) p.0 ∙ ap (λ (b : Bool). chosen true b) p.1 ∙ k.1,
        refutes_as (DoesListing rules t ask answer) (DoesJudged rules t ask answer) (Tells ask answer) (Tells ask answer) s before (λ e w h y. listing y) (only_listing p.0 p.1) k.2,
        k.3,
      )
  place_unlisted Memory u k = k

  reborn_is : is_reborn rules in_ledger before ask answer ≡ true → (is_ever in_ledger ≡ true) × (is_some (grave in_ledger ask answer) ≡ true)
  reborn_is e = let p = and_parts (is_ever in_ledger) (is_some (grave in_ledger ask answer)) e in (p.0, p.1)

  not_both : is_some (grave in_ledger ask answer) ≡ true → lists_here ≡ false
  not_both dug = elim lists_here as (λ b. lists_here ≡ b → b ≡ false) [ true ↦ λ e. clash (is_some (grave in_ledger ask answer)) dug (no_grave in_ledger e) | false ↦ λ e. refl ] refl

  place_reborn : (after : Held) (u : LedgerState) → TakenReborn rules s before t ask answer (Ok (Some after)) u → TakenPlace rules s before t (judged ask answer) (Ok after) u
  place_reborn after u k =
      let c : Choice = k.sound.choice.0 in
      let d = k.explains.sound c k.sound.choice.1 in
      let p = reborn_is (ap (λ (x : StandOf). is_reborn rules x before ask answer) (sym (stand_world c s.now)) ∙ d.1.reborn) in
      took_as (DoesReborn rules t ask answer) (DoesJudged rules t ask answer) (Tells ask answer) (Tells ask answer) s before (λ e w h y. reborn y) (only_reborn p.0 p.1) (λ bytes e. e) u
      (held_of after) k

  place_unborn : (refusal : Refusal) (u : LedgerState) → TakenReborn rules s before t ask answer (Err refusal) u → TakenPlace rules s before t (judged ask answer) (Err refusal) u
  place_unborn (Impossible why) u k =
      let p = reborn_is k.0 in (
        ap (λ (b : Bool). chosen b lists_here) p.0 ∙ ap (λ (b : Bool). chosen true b) (not_both p.1) ∙ k.1,
        refutes_as (DoesReborn rules t ask answer) (DoesJudged rules t ask answer) (Tells ask answer) (Tells ask answer) s before (λ e w h y. reborn y) (only_reborn p.0 p.1) k.2,
        k.3,
      )
  place_unborn Memory u k = k

  not_also : (b : Bool) → is_ever in_ledger ≡ true → (is_ever in_ledger && b) ≡ false → b ≡ false
  not_also b ever e = ap (λ (x : Bool). x && b) (sym ever) ∙ e

  pub plain_is : case rules in_ledger before ask answer ≡ AsEver → is_listing rules in_ledger before ask answer ≡ false → is_reborn rules in_ledger before ask answer ≡ false
      → is_plain rules in_ledger before ask answer ≡ true
  plain_is as_ever e f =
      let ever : is_ever in_ledger ≡ true = ap is_as_ever as_ever in
      let dug : Bool = is_some (grave in_ledger ask answer) in
      ap (λ (b : Bool). b && not (lists_here || dug)) ever ∙ ap (λ (b : Bool). not (b || dug)) (not_also lists_here ever e) ∙ ap not (not_also dug ever f)

  pub none_dug : (o : Option ℕ) → is_some o ≡ false → lowest_beside rules s.now before t ask answer o ≡ lowest rules s.now (judged_by before answer) t ask answer
  none_dug None e = refl
  none_dug (Some place) e = let bad : ⊥ = cc in absurd bad

  place_plain : (r : Result Held Refusal) (u : LedgerState) → is_plain rules in_ledger before ask answer ≡ true → TakenAsEver rules s before t ask answer r u
      → TakenPlace rules s before t (judged ask answer) r u
  place_plain (Ok after) u is k =
      took_as (DoesPlain rules t ask answer) (DoesJudged rules t ask answer) (Tells ask answer) (Tells ask answer) s before (λ c w h y. plain y) (only_plain is) (λ bytes x. x) u
      (held_of after) k
  place_plain (Err (Impossible why)) u is k =
      let p = plain_parts in_ledger is in (
        ap (λ (b : Bool). chosen b lists_here) p.0 ∙ ap (λ (b : Bool). chosen true b) p.1 ∙ none_dug (grave in_ledger ask answer) p.2 ∙ k.1,
        refutes_as (DoesPlain rules t ask answer) (DoesJudged rules t ask answer) (Tells ask answer) (Tells ask answer) s before (λ c w h y. plain y) (only_plain is) k.2,
        k.3,
      )
  place_plain (Err Memory) u is k = k

-- ---- the four, one after the other: where it isn't the case of one, the ledger stays

module _ (rules : RulesOf) (ask : AskOf) (answer : AnswerOf) (s : LedgerState) (before : HeldOf) (moment t : ℤ) (at : moment ≡ t) where
  at_its : (r : Result Held Refusal) (u : LedgerState) → TakenPlace rules s before moment (judged ask answer) r u → TakenPlace rules s before t (judged ask answer) r u
  at_its r u x =
      let P : ℤ → Type 0 = λ m. TakenPlace rules s before m (judged ask answer) r u in
      subst P at x

  pub by_excused : (o : Option Held) (after : Held) (u : LedgerState) → o ≡ Some after → TakenExcused rules s before moment ask answer (Ok o) u → TakenPlace rules s before t (judged ask answer) (Ok after) u
  by_excused o after u is x =
      let P : Option Held → Type 0 = λ y. TakenExcused rules s before moment ask answer (Ok y) u in
      at_its (Ok after) u (place_excused rules moment ask answer s before after u (subst P is x))

  pub unexcused : (refusal : Refusal) (u : LedgerState) → TakenExcused rules s before moment ask answer (Err refusal) u → TakenPlace rules s before t (judged ask answer) (Err refusal) u
  unexcused refusal u x = at_its (Err refusal) u (place_unexcused rules moment ask answer s before refusal u x)

  pub not_excused : (o : Option Held) (v : LedgerState) → o ≡ None → TakenExcused rules s before moment ask answer (Ok o) v → (case rules (stand_in s.now) before ask answer ≡ AsEver) × (v ≡ s)
  not_excused o v is x =
      let P : Option Held → Type 0 = λ y. TakenExcused rules s before moment ask answer (Ok y) v in
      subst P is x

  pub by_listing : (v : LedgerState) → v ≡ s → (o : Option Held) (after : Held) (u : LedgerState) → o ≡ Some after → TakenListing rules v before moment ask answer (Ok o) u
      → TakenPlace rules s before t (judged ask answer) (Ok after) u
  by_listing v same o after u is x =
      let P : Option Held → Type 0 = λ y. TakenListing rules v before moment ask answer (Ok y) u in
      let Q : LedgerState → Type 0 = λ y. TakenListing rules y before moment ask answer (Ok (Some after)) u in
      at_its (Ok after) u (place_listing rules moment ask answer s before after u (subst Q same (subst P is x)))

  pub unlisted : (v : LedgerState) → v ≡ s → (refusal : Refusal) (u : LedgerState) → TakenListing rules v before moment ask answer (Err refusal) u
      → TakenPlace rules s before t (judged ask answer) (Err refusal) u
  unlisted v same refusal u x =
      let Q : LedgerState → Type 0 = λ y. TakenListing rules y before moment ask answer (Err refusal) u in
      at_its (Err refusal) u (place_unlisted rules moment ask answer s before refusal u (subst Q same x))

  pub not_listing : (v : LedgerState) → v ≡ s → (o : Option Held) (u : LedgerState) → o ≡ None → TakenListing rules v before moment ask answer (Ok o) u
      → (is_listing rules (stand_in s.now) before ask answer ≡ false) × (u ≡ s)
  not_listing v same o u is x =
      let P : Option Held → Type 0 = λ y. TakenListing rules v before moment ask answer (Ok y) u in
      let Q : LedgerState → Type 0 = λ y. TakenListing rules y before moment ask answer (Ok None) u in
      subst Q same (subst P is x)

  pub by_reborn : (v : LedgerState) → v ≡ s → (o : Option Held) (after : Held) (u : LedgerState) → o ≡ Some after → TakenReborn rules v before moment ask answer (Ok o) u
      → TakenPlace rules s before t (judged ask answer) (Ok after) u
  by_reborn v same o after u is x =
      let P : Option Held → Type 0 = λ y. TakenReborn rules v before moment ask answer (Ok y) u in
      let Q : LedgerState → Type 0 = λ y. TakenReborn rules y before moment ask answer (Ok (Some after)) u in
      at_its (Ok after) u (place_reborn rules moment ask answer s before after u (subst Q same (subst P is x)))

  pub unborn : (v : LedgerState) → v ≡ s → (refusal : Refusal) (u : LedgerState) → TakenReborn rules v before moment ask answer (Err refusal) u
      → TakenPlace rules s before t (judged ask answer) (Err refusal) u
  unborn v same refusal u x =
      let Q : LedgerState → Type 0 = λ y. TakenReborn rules y before moment ask answer (Err refusal) u in
      at_its (Err refusal) u (place_unborn rules moment ask answer s before refusal u (subst Q same x))

  pub not_reborn : (v : LedgerState) → v ≡ s → (o : Option Held) (u : LedgerState) → o ≡ None → TakenReborn rules v before moment ask answer (Ok o) u
      → (is_reborn rules (stand_in s.now) before ask answer ≡ false) × (u ≡ s)
  not_reborn v same o u is x =
      let P : Option Held → Type 0 = λ y. TakenReborn rules v before moment ask answer (Ok y) u in
      let Q : LedgerState → Type 0 = λ y. TakenReborn rules y before moment ask answer (Ok None) u in
      subst Q same (subst P is x)

  plain_here : case rules (stand_in s.now) before ask answer ≡ AsEver → is_listing rules (stand_in s.now) before ask answer ≡ false → is_reborn rules (stand_in s.now) before ask answer ≡ false
      → is_plain rules (stand_in s.now) before ask answer ≡ true
  plain_here ever e f = plain_is rules moment ask answer s before ever e f

  pub plain_there : (v : LedgerState) → v ≡ s → case rules (stand_in s.now) before ask answer ≡ AsEver → is_listing rules (stand_in s.now) before ask answer ≡ false
      → is_reborn rules (stand_in s.now) before ask answer ≡ false → is_plain rules (stand_in v.now) before ask answer ≡ true
  plain_there v same ever e f =
      let P : LedgerState → Type 0 = λ y. is_plain rules (stand_in y.now) before ask answer ≡ true in
      subst P (sym same) (plain_here ever e f)

  pub by_plain : (v : LedgerState) → v ≡ s → case rules (stand_in s.now) before ask answer ≡ AsEver → is_listing rules (stand_in s.now) before ask answer ≡ false
      → is_reborn rules (stand_in s.now) before ask answer ≡ false → (r : Result Held Refusal) (u : LedgerState) → TakenAsEver rules v before moment ask answer r u
      → TakenPlace rules s before t (judged ask answer) r u
  by_plain v same ever e f r u x =
      let Q : LedgerState → Type 0 = λ y. TakenAsEver rules y before moment ask answer r u in
      at_its r u (place_plain rules moment ask answer s before r u (plain_here ever e f) (subst Q same x))

-- ---- where nothing is set aside

pub places_without_asides : PlacesWithoutAsides
places_without_asides rules t ask answer w before w' after none apart =
    let ever : case rules (stand w) before ask answer ≡ AsEver = as_ever_without_asides rules (stand w) before ask answer none apart in
    let free : is_touched (stand w) ask answer ≡ false = none_touched rules ask answer w none in
    let law = plain_without_asides rules t ask answer w before w' after none apart in
    let is_ever : Bool = is_as_ever (case rules (stand w) before ask answer) in (
      elim [
        | excused d ↦ (let bad : true ≡ false = sym (ap is_as_ever ever) ∙ d.free in let none : ⊥ = cc in absurd none)
        | plain d ↦ law.0 d
        | listing d ↦
            (let bad : true ≡ false = sym (and_parts is_ever (is_touched (stand w) ask answer) d.listing).1 ∙ free in let none : ⊥ = cc in absurd none)
        | reborn d ↦
            (let bad : true ≡ false = sym (and_parts is_ever (is_some (grave (stand w) ask answer)) d.reborn).1 ∙ none_dead rules ask answer w none in let none : ⊥ = cc in absurd none)
      ],
      λ r. plain (law.1 r),
    )
