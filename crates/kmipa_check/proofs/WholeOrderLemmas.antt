-- A whole order: no call is left out, and none stands twice.
use Rattle.std.proofs.Common.{◌≡◌, ◌≢◌, ◌<◌, ℕ, zero, suc, ℤ, pos, negsuc, ◌≤ℤ◌, All, Result, Ok, Err, OkIff, unsigned_abs, List, [], ◌∷◌, map, length, get_or, Contains, Option, Some, None, slice_get, refl, sym, ap, ◌∙◌, subst, arith}
use mir.Val.{SFits}
use mir.Syntax.{w32}
use Rattle.std.specs.Prelude.{AllPairs}
use Rattle.std.specs.Int.{FitsUnsignedBits}
use Rattle.std.specs.Result.{result_unwrap_or}
use Rattle.std.proofs.lemmas.List.{length-map}
use Rattle.std.proofs.lemmas.Option.{get_or_from_slice_get, slice_get_within, slice_get-get_or}
use Rattle.kmipa_record.specs.declared.turn.Turn.{Turn}
use Rattle.kmipa_record.specs.Witnesses.{TurnOf, turn_of}
use Rattle.kmipa_record.specs.declared.call.Call.{Call}
use Rattle.kmipa_check.specs.declared.numbers.FirstPlaces.{FirstPlaces}
use Rattle.kmipa_check.specs.declared.fault.WitnessKind.{WitnessKind}
use Rattle.kmipa_check.specs.declared.fault.WitnessKind.TheVariants.{LeftOut}
use Rattle.kmipa_msgs.specs.declared.kind.OutsideKind.{OutsideKind}
use Rattle.kmipa_msgs.specs.Messages.{RequestOf, ResponseOf}
use Rattle.kmipa_msgs.specs.Responses.{SaysResponse, ResponseFault}
use Rattle.kmipa_check.specs.Calls.{CallOf, AreResponse, AreOutside, call_of}
use Rattle.kmipa_check.specs.Births.{BirthFault, IsBorn}
use Rattle.kmipa_check.specs.Fills.{IsFilled, FillFault}
use Rattle.kmipa_check.specs.Grants.{GrantsOf}
use Rattle.kmipa_check.specs.Moments.{IsMoment, IsUntimely}
use Rattle.kmipa_check.specs.Places.{GivesPlaces, MayBeTaken, PlacesFault}
use Rattle.kmipa_check.specs.Steps.{StepOf, IsAnswered, recorded, given, IsStep, step_at}
use Rattle.kmipa_check.specs.Runs.{IsOfCalls, TakeEachOnce}
use Rattle.kmipa_check.specs.Orders.{IsNamed, IsFormed, AreFormedBelow, IsOrder, IsAnswerFault, answered, unanswered, formless, GivenFault, unfit_answer, untimely, unfit_places, unfilled, unfit_births, unfit_asides, WitnessFaultAt, left_out, AreFormed}
use Rattle.kmipa_check.specs.Numbers.{place_in, StandsFirst, Indexes}
use Rattle.kmipa_check.specs.Ordering.{missing_or, first_missing}
use Rattle.kmipa_check.proofs.PlaceLemmas.{mapped_from, contains_at, at_contains, same_elements, get_at, some_at}
use Rattle.kmipa_check.proofs.MessageLemmas.{same_message, not_outside}
use Rattle.kmipa_check.proofs.OnceLemmas.{IsOnce}
use Rattle.kmipa_check.proofs.OrderLemmas.{formed_below}
use Rattle.kmipa_check.proofs.BornLemmas.{born_right, one_birth_fault, one_born}
use Rattle.kmipa_check.proofs.FillLemmas.{one_filled, filled_right, one_fill_fault}
use Rattle.kmipa_check.proofs.PlacesLemmas.{one_places, places_right, one_places_fault}

abbrev pub number_of : CallOf → ℤ
number_of = λ c. c.number

-- the first call that has ended and is without a place
record FirstMissing (named : FirstPlaces) (calls : List CallOf) (number : ℤ) : Type 0 where
  place : ℕ
  call : CallOf
  there : slice_get calls place ≡ Some call
  is : call.number ≡ number
  end : ℕ
  ended : call.end ≡ Some end
  none : place_in named call.number ≡ None
  earlier : (other : ℕ) (d : CallOf) (e : ℕ) → other < place → slice_get calls other ≡ Some d → d.end ≡ Some e → place_in named d.number ≡ None → ⊥

earlier_missing : (named : FirstPlaces) (c : CallOf) (calls : List CallOf) (number : ℤ) → ((e : ℕ) → c.end ≡ Some e → place_in named c.number ≡ None → ⊥) → (r : FirstMissing named calls number)
    → (other : ℕ) (d : CallOf) (e : ℕ) → other < suc r.place → slice_get (c ∷ calls) other ≡ Some d → d.end ≡ Some e → place_in named d.number ≡ None → ⊥
earlier_missing named c calls number never r zero d e below at ended none =
    let same : c ≡ d = cc in
    let P : CallOf → Type 0 = λ x. x.end ≡ Some e in
    let Q : CallOf → Type 0 = λ x. place_in named x.number ≡ None in
    never e (subst P (sym same) ended) (subst Q (sym same) none)
earlier_missing named c calls number never r (suc other) d e below at ended none = r.earlier other d e (omega (arith, below)) at ended none

missing_case : (named : FirstPlaces) (c : CallOf) (calls : List CallOf) (number : ℤ) (e v : Option ℕ) → c.end ≡ e → place_in named c.number ≡ v → missing_or e v c.number (first_missing named calls) ≡ Some number
    → (first_missing named calls ≡ Some number → FirstMissing named calls number) → FirstMissing named (c ∷ calls) number
missing_case named c calls number None v ends is h rest =
    let r = rest h in
    record { place = suc r.place; call = r.call; there = r.there; is = r.is; end = r.end; ended = r.ended; none = r.none; earlier = earlier_missing named c calls number (λ e ended none. absurd cc) r }
missing_case named c calls number (Some e) None ends is h rest =
    record { place = 0; call = c; there = refl; is = cc; end = e; ended = ends; none = is; earlier = λ other d e below at ended none. omega (arith, below) }
missing_case named c calls number (Some e) (Some q) ends is h rest =
    let r = rest h in
    record { place = suc r.place; call = r.call; there = r.there; is = r.is; end = r.end; ended = r.ended; none = r.none; earlier = earlier_missing named c calls number (λ e ended none. absurd cc) r }

missing_is : (named : FirstPlaces) (calls : List CallOf) (number : ℤ) → first_missing named calls ≡ Some number → FirstMissing named calls number
missing_is named [] number e = absurd cc
missing_is named (c ∷ calls) number e = missing_case named c calls number c.end (place_in named c.number) refl refl e (λ h. missing_is named calls number h)

-- its number is that of a call
pub missing_counted : (named : FirstPlaces) (calls : List Call) (number : ℤ) → first_missing named (map call_of calls) ≡ Some number → All (λ call. pos 1 ≤ℤ call.number) calls → pos 1 ≤ℤ number
missing_counted named calls number missing numbered =
    let r = missing_is named (map call_of calls) number missing in
    let m = mapped_from call_of calls r.place r.call r.there in
    let P : ℤ → Type 0 = λ z. pos 1 ≤ℤ z in
    let Q : Call → Type 0 = λ c. pos 1 ≤ℤ c.number in
    subst P (ap number_of m.2 ∙ r.is) (subst Q (get_or_from_slice_get calls r.place m.0 m.0 m.1) (numbered r.place m.0 (slice_get_within calls r.place m.0 m.1)))

-- a number from 1 on is reported as it is
pub reported_number : {E : Type 0} (r : Result ℕ E) (number : ℤ) (at : ℕ) → OkIff r (FitsUnsignedBits 64 number) (unsigned_abs number) → at ≡ result_unwrap_or r 0 → pos 1 ≤ℤ number → SFits w32 number → number ≡ pos at
reported_number (Ok x) (pos n) at reported is one fits = ap pos (sym (is ∙ reported.1))
reported_number (Ok x) (negsuc n) at reported is one fits = absurd reported.0
reported_number (Err e) (pos n) at reported is one fits =
    let small : n < 2147483648 = fits.sfits in
    let fitting : n < 18446744073709551616 = omega (arith, small) in
    absurd (reported fitting)
reported_number (Err e) (negsuc n) at reported is one fits = absurd one.le

-- no call that has ended is without one
placed_case : (named : FirstPlaces) (x : CallOf) (calls : List CallOf) (e v : Option ℕ) → x.end ≡ e → place_in named x.number ≡ v → missing_or e v x.number (first_missing named calls) ≡ None
    → ((place : ℕ) (c : CallOf) (end : ℕ) → first_missing named calls ≡ None → slice_get calls place ≡ Some c → c.end ≡ Some end → (q : ℕ) × (place_in named c.number ≡ Some q))
    → (place : ℕ) (c : CallOf) (end : ℕ) → slice_get (x ∷ calls) place ≡ Some c → c.end ≡ Some end → (q : ℕ) × (place_in named c.number ≡ Some q)
placed_case named x calls None v ends is h rest zero c end at ended =
    let same : x ≡ c = cc in
    let P : CallOf → Type 0 = λ d. d.end ≡ Some end in
    let its = subst P (sym same) ended in
    absurd cc
placed_case named x calls None v ends is h rest (suc place) c end at ended = rest place c end h at ended
placed_case named x calls (Some e) None ends is h rest place c end at ended = absurd cc
placed_case named x calls (Some e) (Some q) ends is h rest zero c end at ended =
    let same : x ≡ c = cc in
    let P : CallOf → Type 0 = λ d. (q : ℕ) × (place_in named d.number ≡ Some q) in
    subst P same (q, is)
placed_case named x calls (Some e) (Some q) ends is h rest (suc place) c end at ended = rest place c end h at ended

missing_none : (named : FirstPlaces) (calls : List CallOf) → first_missing named calls ≡ None → (place : ℕ) (c : CallOf) (end : ℕ) → slice_get calls place ≡ Some c → c.end ≡ Some end
    → (q : ℕ) × (place_in named c.number ≡ Some q)
missing_none named [] h place c end at ended = absurd cc
missing_none named (x ∷ calls) h place c end at ended =
    placed_case named x calls x.end (place_in named x.number) refl refl h (λ p d e f g k. missing_none named calls f p d e g k) place c end at ended

-- what the places say of turns
module _ (g : GrantsOf) (turns : List Turn) (named : FirstPlaces) (names : Indexes (map (λ (t : Turn). Some t.call) turns) named) where
  unnamed : (number : ℤ) → place_in named number ≡ None → IsNamed (map turn_of turns) number → ⊥
  unnamed number none (place, at) =
      let m = mapped_from turn_of turns place at.0 at.1 in
      let e : m.0.call ≡ number = ap (λ (t : TurnOf). t.call) m.2 ∙ at.2 in
      let here : slice_get (map (λ (t : Turn). Some t.call) turns) place ≡ Some (Some number) = get_at (λ (t : Turn). Some t.call) turns place m.0 m.1 ∙ ap (λ (z : ℤ). Some (Some z)) e in
      let P : Option ℕ → Type 0 = λ v. StandsFirst (map (λ (t : Turn). Some t.call) turns) (length (map (λ (t : Turn). Some t.call) turns)) number v in
      subst P none (names number) place (slice_get_within (map (λ (t : Turn). Some t.call) turns) place (Some number) here) here

  is_named : (number : ℤ) (q : ℕ) → place_in named number ≡ Some q → IsNamed (map turn_of turns) number
  is_named number q noted =
      let P : Option ℕ → Type 0 = λ v. StandsFirst (map (λ (t : Turn). Some t.call) turns) (length (map (λ (t : Turn). Some t.call) turns)) number v in
      let found = subst P noted (names number) in
      let m = mapped_from (λ (t : Turn). Some t.call) turns q (Some number) found.1.there in
      let e : m.0.call ≡ number = cc in
      (q, (turn_of m.0, get_at turn_of turns q m.0 m.1, e))

  not_left_out : (number : ℤ) (v : Option ℕ) → place_in named number ≡ v → (v ≡ None → ⊥) → (IsNamed (map turn_of turns) number → ⊥) → ⊥
  not_left_out number None is some out = some refl
  not_left_out number (Some q) is some out = out (is_named number q is)

  pub left_out_reported : (calls : List CallOf) (steps : List StepOf) (number : ℤ) (at : ℕ) → AreFormed g calls (map turn_of turns) (length turns) steps → first_missing named calls ≡ Some number
      → number ≡ pos at → WitnessFaultAt g calls (map turn_of turns) at LeftOut
  left_out_reported calls steps number at f missing is =
      let r = missing_is named calls number missing in
      let P : ℕ → Type 0 = λ n. AreFormedBelow g calls (map turn_of turns) n in
      left_out r.place r.call (subst P (sym (length-map turns turn_of)) (formed_below g calls (map turn_of turns) (length turns) steps f)) r.there
      (record { end = r.end; ended = r.ended; unnamed = unnamed r.call.number r.none })
      (λ other d below there out. not_left_out d.number (place_in named d.number) refl (r.earlier other d out.end below there out.ended) out.unnamed) (r.is ∙ is) refl

  -- where none is left out, the steps are those of the whole witness
  pub order_reported : (calls : List CallOf) (steps : List StepOf) → AreFormed g calls (map turn_of turns) (length turns) steps → first_missing named calls ≡ None → IsOrder g calls (map turn_of turns) steps
  order_reported calls steps f missing = record {
    counted = f.counted ∙ sym (length-map turns turn_of);
    formed = f.each;
    all = λ c end one ended. by c end ended (at_contains calls c one);
  }
    where
      by : (c : CallOf) (end : ℕ) → c.end ≡ Some end → (i : ℕ) × (slice_get calls i ≡ Some c) → IsNamed (map turn_of turns) c.number
      by c end ended p = let q = missing_none named calls missing p.0 c end p.1 ended in is_named c.number q.0 q.1

-- two calls of one number are one
pub same_call : (calls : List CallOf) → IsOnce (map number_of calls) → (i j : ℕ) (a b : CallOf) → slice_get calls i ≡ Some a → slice_get calls j ≡ Some b → a.number ≡ b.number → a ≡ b
same_call [] once i j a b p q e = absurd cc
same_call (x ∷ calls) once zero zero a b p q e = let u : x ≡ a = cc in let v : x ≡ b = cc in sym u ∙ v
same_call (x ∷ calls) once zero (suc j) a b p q e =
    let u : x ≡ a = cc in
    let P : ℤ → Type 0 = λ z. Contains (map number_of calls) z in
    absurd (once.0 (subst P (sym e ∙ sym (ap number_of u)) (contains_at (map number_of calls) j b.number (get_at number_of calls j b q))))
same_call (x ∷ calls) once (suc i) zero a b p q e =
    let v : x ≡ b = cc in
    let P : ℤ → Type 0 = λ z. Contains (map number_of calls) z in
    absurd (once.0 (subst P (e ∙ sym (ap number_of v)) (contains_at (map number_of calls) i a.number (get_at number_of calls i a p))))
same_call (x ∷ calls) once (suc i) (suc j) a b p q e = same_call calls once.1 i j a b p q e

-- an order takes each call once
module _ (g : GrantsOf) (calls : List CallOf) (turns : List TurnOf) (steps : List StepOf) (o : IsOrder g calls turns steps) where
  -- a step's number is that of its turn
  numbered : (place : ℕ) (s : StepOf) (f : IsFormed g calls turns place s) → f.turn.call ≡ s.number
  numbered place s f = f.step.named ∙ sym (ap (λ (x : StepOf). x.number) f.step.is)

  taken_once : AllPairs (λ (a b : StepOf). a.number ≢ b.number) steps
  taken_once i j d below within same =
      let p = slice_get-get_or steps i d (omega (arith, below, within)) in
      let q = slice_get-get_or steps j d within in
      let f = o.formed i (get_or steps i d) p in
      let h = o.formed j (get_or steps j d) q in
      h.first (i, below, (f.turn, f.there, numbered i (get_or steps i d) f ∙ same ∙ sym (numbered j (get_or steps j d) h)))

  taken : (c : CallOf) → IsNamed turns c.number → (s : StepOf) × Contains steps s × (s.number ≡ c.number)
  taken c (place, (turn, there, named)) =
      let s = some_at steps place (omega (arith, slice_get_within turns place turn there, o.counted)) in
      let f = o.formed place s.0 s.1 in
      let at = f.there in
      let same : f.turn ≡ turn = cc in
      (s.0, contains_at steps place s.0 s.1, sym (numbered place s.0 f) ∙ ap (λ (t : TurnOf). t.call) same ∙ named)

  pub order_takes : TakeEachOnce g calls steps
  order_takes = record {
    of_calls = λ s has. by s (at_contains steps s has);
    once = taken_once;
    all = λ c end one ended. taken c (o.all c end one ended);
  }
    where
      by : (s : StepOf) → (i : ℕ) × (slice_get steps i ≡ Some s) → IsOfCalls g calls s
      by s p = let f = o.formed p.0 s p.1 in (f.call, f.turn, f.known, f.step)

-- a call has one response by a turn
one_answer : (c : CallOf) (t : TurnOf) (response other : ResponseOf) → IsAnswered c t response → IsAnswered c t other → response ≡ other
one_answer c t response other (recorded had none) (recorded has nothing) = cc
one_answer c t response other (recorded had none) (given bytes unended some says) = absurd cc
one_answer c t response other (given bytes unended some says) (recorded had none) = absurd cc
one_answer c t response other (given bytes unended some says) (given others lacks any reported) =
    let same : others ≡ bytes = cc in
    let P : List ℕ → Type 0 = λ bs. AreResponse c.request bs other in
    same_message (λ u. SaysResponse u c.request) (λ u. ResponseFault u c.request) bytes response other says (subst P same reported)

-- an answer that says a response is not outside
said_right : (c : CallOf) (bytes others : List ℕ) (response : ResponseOf) (item : ℕ) (reason : OutsideKind) → bytes ≡ others → AreResponse c.request bytes response
    → AreOutside (λ u. ResponseFault u c.request) others item reason → ⊥
said_right c bytes others response item reason same says out =
    let P : List ℕ → Type 0 = λ bs. AreResponse c.request bs response in
    not_outside (λ u. SaysResponse u c.request) (λ u. ResponseFault u c.request) others response item reason (subst P same says) out

-- where a call has a response by a turn nothing is wrong with its answer
answered_right : (c : CallOf) (t : TurnOf) (response : ResponseOf) (kind : WitnessKind) → IsAnswered c t response → IsAnswerFault c t kind → ⊥
answered_right c t response kind (recorded had none) (answered x has some is) = some none
answered_right c t response kind (recorded had none) (unanswered unended nothing is) = absurd cc
answered_right c t response kind (recorded had none) (formless bytes i k unended some out is) = absurd cc
answered_right c t response kind (given bytes unended some says) (answered x has any is) = absurd cc
answered_right c t response kind (given bytes unended some says) (unanswered lacks nothing is) = absurd cc
answered_right c t response kind (given bytes unended some says) (formless others i k lacks any out is) = let same : bytes ≡ others = cc in said_right c bytes others response i k same says out

one_answer_fault : (c : CallOf) (t : TurnOf) (kind other : WitnessKind) → IsAnswerFault c t kind → IsAnswerFault c t other → kind ≡ other
one_answer_fault c t kind other (answered x has some is) (answered y had any same) = is ∙ sym same
one_answer_fault c t kind other (answered x has some is) (unanswered unended none same) = absurd (some none)
one_answer_fault c t kind other (answered x has some is) (formless bytes i k unended any out same) = absurd cc
one_answer_fault c t kind other (unanswered unended none is) (answered y had any same) = absurd (any none)
one_answer_fault c t kind other (unanswered unended none is) (unanswered lacks nothing same) = is ∙ sym same
one_answer_fault c t kind other (unanswered unended none is) (formless bytes i k lacks any out same) = absurd cc
one_answer_fault c t kind other (formless bytes i k unended some out is) (answered y had any same) = absurd cc
one_answer_fault c t kind other (formless bytes i k unended some out is) (unanswered lacks none same) = absurd cc
one_answer_fault c t kind other (formless bytes i k unended some out is) (formless others j l lacks any outs same) = is ∙ sym same

-- where a moment is told nothing is wrong with it
moment_right : (g : GrantsOf) (stamp : ℤ) (told : Option ℤ) (moment : ℤ) → IsMoment g stamp told moment → IsUntimely g stamp told → ⊥
moment_right g stamp None moment timed late = late
moment_right g stamp (Some told) moment timed late = late timed.1

-- a turn takes a call at one moment
one_moment : (g : GrantsOf) (stamp : ℤ) (told : Option ℤ) (moment other : ℤ) → IsMoment g stamp told moment → IsMoment g stamp told other → moment ≡ other
one_moment g stamp None moment other timed same = timed ∙ sym same
one_moment g stamp (Some told) moment other timed same = timed.0 ∙ sym same.0

-- where a test is passed, whatever the response is called, its fault isn't told
module _ (g : GrantsOf) (c : CallOf) (t : TurnOf) (response other : ResponseOf) (had : IsAnswered c t response) (has : IsAnswered c t other) where
  one_response : response ≡ other
  one_response = one_answer c t response other had has

  never_untimely : (moment : ℤ) → IsMoment g response.stamp t.moment moment → IsUntimely g other.stamp t.moment → ⊥
  never_untimely moment timed late =
      let P : ResponseOf → Type 0 = λ x. IsUntimely g x.stamp t.moment in
      moment_right g response.stamp t.moment moment timed (subst P (sym one_response) late)

  never_disordered : (places : Option (List ℕ)) (kind : WitnessKind) → GivesPlaces t.places places → MayBeTaken c.request response places → PlacesFault c.request other t.places kind → ⊥
  never_disordered places kind gives taken fault =
      let P : ResponseOf → Type 0 = λ x. PlacesFault c.request x t.places kind in
      places_right c.request response t.places places kind gives taken (subst P (sym one_response) fault)

  never_unfilled : (full : ResponseOf) (kind : WitnessKind) → IsFilled c.request response t.fills full → FillFault c.request other t.fills kind → ⊥
  never_unfilled full kind filled fault =
      let P : ResponseOf → Type 0 = λ x. FillFault c.request x t.fills kind in
      filled_right c.request response t.fills full kind filled (subst P (sym one_response) fault)

  one_disordered : (kind another : WitnessKind) → PlacesFault c.request response t.places kind → PlacesFault c.request other t.places another → kind ≡ another
  one_disordered kind another fault wrong =
      let P : ResponseOf → Type 0 = λ x. PlacesFault c.request x t.places another in
      one_places_fault c.request response t.places kind another fault (subst P (sym one_response) wrong)

  one_unfilled : (kind another : WitnessKind) → FillFault c.request response t.fills kind → FillFault c.request other t.fills another → kind ≡ another
  one_unfilled kind another fault wrong =
      let P : ResponseOf → Type 0 = λ x. FillFault c.request x t.fills another in
      one_fill_fault c.request response t.fills kind another fault (subst P (sym one_response) wrong)

  never_unborn : (asked : RequestOf) (kind : WitnessKind) → IsBorn g c.request response t.births asked → BirthFault g c.request other t.births kind → ⊥
  never_unborn asked kind born fault =
      let P : ResponseOf → Type 0 = λ x. BirthFault g c.request x t.births kind in
      born_right g c.request response t.births asked kind born (subst P (sym one_response) fault)

  one_unborn : (kind another : WitnessKind) → BirthFault g c.request response t.births kind → BirthFault g c.request other t.births another → kind ≡ another
  one_unborn kind another fault wrong =
      let P : ResponseOf → Type 0 = λ x. BirthFault g c.request x t.births another in
      one_birth_fault g c.request response t.births kind another fault (subst P (sym one_response) wrong)

-- where they make a step nothing is wrong with what the turn gives
pub step_right : (g : GrantsOf) (c : CallOf) (t : TurnOf) (s : StepOf) (kind : WitnessKind) → IsStep g c t s → GivenFault g c t kind → ⊥
step_right g c t s kind i (unfit_answer fault) = answered_right c t i.response kind i.answered fault
step_right g c t s kind i (untimely response had late is) = never_untimely g c t i.response response i.answered had i.moment i.timed late
step_right g c t s kind i (unfit_places response had moment timed fault) = never_disordered g c t i.response response i.answered had i.places kind i.ordered i.taken fault
step_right g c t s kind i (unfilled response had moment timed places gives taken fault) = never_unfilled g c t i.response response i.answered had i.full kind i.filled fault
step_right g c t s kind i (unfit_births response had moment timed places gives taken full filled fault) = never_unborn g c t i.response response i.answered had i.asked kind i.born fault
step_right g c t s kind i (unfit_asides response had moment timed places gives taken full filled asked born some is) = some i.no_aside

-- and else one thing is
pub one_given : (g : GrantsOf) (c : CallOf) (t : TurnOf) (kind other : WitnessKind) → GivenFault g c t kind → GivenFault g c t other → kind ≡ other
one_given g c t kind other (unfit_answer fault) (unfit_answer wrong) = one_answer_fault c t kind other fault wrong
one_given g c t kind other (unfit_answer fault) (untimely answer has behind same) = absurd (answered_right c t answer kind has fault)
one_given g c t kind other (unfit_answer fault) (unfit_places answer has time times wrong) = absurd (answered_right c t answer kind has fault)
one_given g c t kind other (unfit_answer fault) (unfilled answer has time times ps give take wrong) = absurd (answered_right c t answer kind has fault)
one_given g c t kind other (unfit_answer fault) (unfit_births answer has time times ps give take whole fills wrong) = absurd (answered_right c t answer kind has fault)
one_given g c t kind other (unfit_answer fault) (unfit_asides answer has time times ps give take whole fills posed bears any same) = absurd (answered_right c t answer kind has fault)
one_given g c t kind other (untimely response had late is) (unfit_answer wrong) = absurd (answered_right c t response other had wrong)
one_given g c t kind other (untimely response had late is) (untimely answer has behind same) = is ∙ sym same
one_given g c t kind other (untimely response had late is) (unfit_places answer has time times wrong) = absurd (never_untimely g c t answer response has had time times late)
one_given g c t kind other (untimely response had late is) (unfilled answer has time times ps give take wrong) = absurd (never_untimely g c t answer response has had time times late)
one_given g c t kind other (untimely response had late is) (unfit_births answer has time times ps give take whole fills wrong) = absurd (never_untimely g c t answer response has had time times late)
one_given g c t kind other (untimely response had late is) (unfit_asides answer has time times ps give take whole fills posed bears any same) = absurd (never_untimely g c t answer response has had time times late)
one_given g c t kind other (unfit_places response had moment timed fault) (unfit_answer wrong) = absurd (answered_right c t response other had wrong)
one_given g c t kind other (unfit_places response had moment timed fault) (untimely answer has behind same) = absurd (never_untimely g c t response answer had has moment timed behind)
one_given g c t kind other (unfit_places response had moment timed fault) (unfit_places answer has time times wrong) = one_disordered g c t response answer had has kind other fault wrong
one_given g c t kind other (unfit_places response had moment timed fault) (unfilled answer has time times ps give take wrong) = absurd (never_disordered g c t answer response has had ps kind give take fault)
one_given g c t kind other (unfit_places response had moment timed fault) (unfit_births answer has time times ps give take whole fills wrong) = absurd (never_disordered g c t answer response has had ps kind give take fault)
one_given g c t kind other (unfit_places response had moment timed fault) (unfit_asides answer has time times ps give take whole fills posed bears any same) = absurd (never_disordered g c t answer response has had ps kind give take fault)
one_given g c t kind other (unfilled response had moment timed places gives taken fault) (unfit_answer wrong) = absurd (answered_right c t response other had wrong)
one_given g c t kind other (unfilled response had moment timed places gives taken fault) (untimely answer has behind same) = absurd (never_untimely g c t response answer had has moment timed behind)
one_given g c t kind other (unfilled response had moment timed places gives taken fault) (unfit_places answer has time times wrong) = absurd (never_disordered g c t response answer had has places other gives taken wrong)
one_given g c t kind other (unfilled response had moment timed places gives taken fault) (unfilled answer has time times ps give take wrong) = one_unfilled g c t response answer had has kind other fault wrong
one_given g c t kind other (unfilled response had moment timed places gives taken fault) (unfit_births answer has time times ps give take whole fills wrong) = absurd (never_unfilled g c t answer response has had whole kind fills fault)
one_given g c t kind other (unfilled response had moment timed places gives taken fault) (unfit_asides answer has time times ps give take whole fills posed bears any same) = absurd (never_unfilled g c t answer response has had whole kind fills fault)
one_given g c t kind other (unfit_births response had moment timed places gives taken full filled fault) (unfit_answer wrong) = absurd (answered_right c t response other had wrong)
one_given g c t kind other (unfit_births response had moment timed places gives taken full filled fault) (untimely answer has behind same) = absurd (never_untimely g c t response answer had has moment timed behind)
one_given g c t kind other (unfit_births response had moment timed places gives taken full filled fault) (unfit_places answer has time times wrong) = absurd (never_disordered g c t response answer had has places other gives taken wrong)
one_given g c t kind other (unfit_births response had moment timed places gives taken full filled fault) (unfilled answer has time times ps give take wrong) = absurd (never_unfilled g c t response answer had has full other filled wrong)
one_given g c t kind other (unfit_births response had moment timed places gives taken full filled fault) (unfit_births answer has time times ps give take whole fills wrong) = one_unborn g c t response answer had has kind other fault wrong
one_given g c t kind other (unfit_births response had moment timed places gives taken full filled fault) (unfit_asides answer has time times ps give take whole fills posed bears any same) = absurd (never_unborn g c t answer response has had posed kind bears fault)
one_given g c t kind other (unfit_asides response had moment timed places gives taken full filled asked born some is) (unfit_answer wrong) = absurd (answered_right c t response other had wrong)
one_given g c t kind other (unfit_asides response had moment timed places gives taken full filled asked born some is) (untimely answer has behind same) = absurd (never_untimely g c t response answer had has moment timed behind)
one_given g c t kind other (unfit_asides response had moment timed places gives taken full filled asked born some is) (unfit_places answer has time times wrong) = absurd (never_disordered g c t response answer had has places other gives taken wrong)
one_given g c t kind other (unfit_asides response had moment timed places gives taken full filled asked born some is) (unfilled answer has time times ps give take wrong) = absurd (never_unfilled g c t response answer had has full other filled wrong)
one_given g c t kind other (unfit_asides response had moment timed places gives taken full filled asked born some is) (unfit_births answer has time times ps give take whole fills wrong) = absurd (never_unborn g c t response answer had has asked other born wrong)
one_given g c t kind other (unfit_asides response had moment timed places gives taken full filled asked born some is) (unfit_asides answer has time times ps give take whole fills posed bears any same) = is ∙ sym same

-- a call and a turn make one step
pub one_step_lem : (g : GrantsOf) (c : CallOf) (t : TurnOf) (s u : StepOf) → IsStep g c t s → IsStep g c t u → s ≡ u
one_step_lem g c t s u a b =
    let same = one_answer c t b.response a.response b.answered a.answered in
    let P : ResponseOf → Type 0 = λ x. IsFilled c.request x t.fills b.full in
    let Q : ResponseOf → Type 0 = λ x. IsMoment g x.stamp t.moment b.moment in
    let R : ResponseOf → Type 0 = λ x. IsBorn g c.request x t.births b.asked in
    a.is ∙ ap (λ (r : RequestOf). step_at c r a.full a.moment a.places) (one_born g c.request a.response t.births a.asked b.asked a.born (subst R same b.born))
    ∙ ap (λ (r : ResponseOf). step_at c b.asked r a.moment a.places) (one_filled c.request a.response t.fills a.full b.full a.filled (subst P same b.filled))
    ∙ ap (λ (m : ℤ). step_at c b.asked b.full m a.places) (one_moment g a.response.stamp t.moment a.moment b.moment a.timed (subst Q same b.timed))
    ∙ ap (step_at c b.asked b.full b.moment) (one_places t.places a.places b.places a.ordered b.ordered) ∙ sym b.is

-- and a witness gives one order
pub one_order_lem : (g : GrantsOf) (calls : List CallOf) (turns : List TurnOf) (steps others : List StepOf) → IsOnce (map number_of calls) → IsOrder g calls turns steps → IsOrder g calls turns others → steps ≡ others
one_order_lem g calls turns steps others once o p = same_elements steps others (o.counted ∙ sym p.counted) (λ i s at. by i s at)
  where
    by : (i : ℕ) (s : StepOf) → slice_get steps i ≡ Some s → slice_get others i ≡ Some s
    by i s at =
        let u = some_at others i (omega (arith, slice_get_within steps i s at, o.counted, p.counted)) in
        let f = o.formed i s at in
        let h = p.formed i u.0 u.1 in
        let here = f.there in
        let there = h.there in
        let turn : h.turn ≡ f.turn = cc in
        let a = at_contains calls f.call f.known in
        let b = at_contains calls h.call h.known in
        let call : h.call ≡ f.call = same_call calls once b.0 a.0 h.call f.call b.1 a.1 (sym h.step.named ∙ ap (λ (t : TurnOf). t.call) turn ∙ f.step.named) in
        let P : CallOf → Type 0 = λ c. IsStep g c h.turn u.0 in
        let Q : TurnOf → Type 0 = λ t. IsStep g f.call t u.0 in
        u.1 ∙ ap Some (one_step_lem g f.call f.turn u.0 s (subst Q turn (subst P call h.step)) f.step)
