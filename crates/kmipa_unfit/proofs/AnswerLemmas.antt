-- The fault of what a turn gives to a call, by the call's response and by the turn's answer.
use Rattle.std.proofs.Common.{◌≡◌, ◌≢◌, ℕ, Bool, false, List, [], Option, Some, None, option_map, refl, ap, subst}
use Rattle.std.specs.Prelude.{IfOk, Err, is_some}
use Rattle.kmipa_msgs.specs.declared.fault.ReadFault.{ReadFault}
use Rattle.kmipa_msgs.specs.declared.fault.ReadFault.TheVariants as read
use Rattle.kmipa_msgs.specs.declared.kind.OutsideKind.{OutsideKind}
use Rattle.kmipa_msgs.specs.Messages.{RequestOf, ResponseOf}
use Rattle.kmipa_msgs.specs.Responses.{SaysResponse, ResponseFault}
use Rattle.kmipa_record.specs.Marks.{MarkOf}
use Rattle.kmipa_record.specs.Witnesses.{FillOf, TurnOf}
use Rattle.kmipa_check.specs.Calls.{CallOf, AreOutside, AreResponse, IsEnded, has_ended, is_open, IsRecorded}
use Rattle.kmipa_check.specs.Births.{AreBirthsWanted, BirthFault, SomeMisformed}
use Rattle.kmipa_check.specs.Births
use Rattle.kmipa_check.specs.Fills.{AreWanted, FillFault}
use Rattle.kmipa_check.specs.Fills
use Rattle.kmipa_check.specs.Grants.{GrantsOf}
use Rattle.kmipa_check.specs.Moments.{IsUntimely}
use Rattle.kmipa_check.specs.Orders.{IsAnswerFault, answered, unanswered, formless, GivenFault, unfit_answer, untimely, unfit_places, unfilled, unfit_births, unfit_asides}
use Rattle.kmipa_check.specs.Places.{PlacesFault, WantsOrder}
use Rattle.kmipa_check.specs.Places
use Rattle.kmipa_check.specs.Steps.{IsAnswered, recorded, given}
use Rattle.kmipa_check.specs.declared.fault.WitnessKind.{WitnessKind}
use Rattle.kmipa_check.specs.declared.fault.WitnessKind.TheVariants.{FillNotWanted, AnswerNotWanted, AnswerMissing, AnswerForm, OrderNotWanted, OrderForm, MomentForm, BirthNotWanted, BirthForm, AsideForm}
use Rattle.kmipa_check.proofs.MessageLemmas.{not_outside, same_message}
use Rattle.kmipa_unfit.specs.Finding.{AnswerSays, IsAnsweredFault, of_moment, of_places, of_fills, of_births, of_asides, unread}
use Rattle.kmipa_unfit.specs.UnfitTurns.{TellsGiven}
use Rattle.kmipa_unfit.specs.OrderFinding.{IsOrderless}

-- what isn't there has no value
pub none_of : {X Y : Type 0} (f : X → Y) (o : Option X) (b : Bool) → b ≡ is_some o → b ≡ false → option_map f o ≡ None
none_of f None b is not = refl
none_of f (Some x) b is not = absurd cc

-- ---- whether it ended

pub has_end : (marks : List MarkOf) (c : CallOf) (response : ResponseOf) → IsRecorded marks c → c.response ≡ Some response → (end : ℕ) × (c.end ≡ Some end)
has_end marks c response r has = by r.ended
  where
    by : IsEnded marks c → (end : ℕ) × (c.end ≡ Some end)
    by (has_ended end bytes x there says close is) = (end, close)
    by (is_open none close is) = absurd cc

pub has_no_end : (marks : List MarkOf) (c : CallOf) → IsRecorded marks c → c.response ≡ None → c.end ≡ None
has_no_end marks c r lacks = by r.ended
  where
    by : IsEnded marks c → c.end ≡ None
    by (has_ended end bytes x there says close is) = absurd cc
    by (is_open none close is) = close

-- ---- the answer

-- the fault is that of the answer; or there is a response by the turn, and it is that of something else
pub data FaultBy (g : GrantsOf) (c : CallOf) (t : TurnOf) (kind : WitnessKind) : Type 0 where
  by_answer : IsAnswerFault c t kind → FaultBy g c t kind
  by_response : (response : ResponseOf) → IsAnswered c t response → IsAnsweredFault g c.request response t kind → FaultBy g c t kind

module _ (g : GrantsOf) (c : CallOf) (t : TurnOf) (kind : WitnessKind) where
  parted : GivenFault g c t kind → FaultBy g c t kind
  parted (unfit_answer fault) = by_answer fault
  parted (untimely x had late is) = by_response x had (of_moment late is)
  parted (unfit_places x had moment timed fault) = by_response x had (of_places fault)
  parted (unfilled x had moment timed places gives taken fault) = by_response x had (of_fills fault)
  parted (unfit_births x had moment timed places gives taken full filled fault) = by_response x had (of_births fault)
  parted (unfit_asides x had moment timed places gives taken full filled asked born some is) = by_response x had (of_asides some is)

  pub ended_kind : (response : ResponseOf) → c.response ≡ Some response → (t.answer ≡ None → ⊥) → GivenFault g c t kind → kind ≡ AnswerNotWanted
  ended_kind response has some fault = by (parted fault)
    where
      by : FaultBy g c t kind → kind ≡ AnswerNotWanted
      by (by_answer (answered x had any is)) = is
      by (by_answer (unanswered unended none is)) = absurd (some none)
      by (by_answer (formless bytes i k unended any out is)) = absurd cc
      by (by_response x (recorded had none) f) = absurd (some none)
      by (by_response x (given bytes unended any says) f) = absurd cc

  pub open_kind : c.response ≡ None → t.answer ≡ None → GivenFault g c t kind → kind ≡ AnswerMissing
  open_kind lacks none fault = by (parted fault)
    where
      by : FaultBy g c t kind → kind ≡ AnswerMissing
      by (by_answer (answered x had any is)) = absurd cc
      by (by_answer (unanswered unended nothing is)) = is
      by (by_answer (formless bytes i k unended any out is)) = absurd cc
      by (by_response x (recorded had nothing) f) = absurd cc
      by (by_response x (given bytes unended any says) f) = absurd cc

  -- an answer that says a response isn't outside
  said_inside : (bytes others : List ℕ) (x : ResponseOf) (item : ℕ) (reason : OutsideKind) → t.answer ≡ Some bytes → t.answer ≡ Some others → AreResponse c.request others x
      → AreOutside (λ u. ResponseFault u c.request) bytes item reason → ⊥
  said_inside bytes others x item reason some any says out =
      let same : others ≡ bytes = cc in
      let P : List ℕ → Type 0 = λ bs. AreResponse c.request bs x in
      not_outside (λ u. SaysResponse u c.request) (λ u. ResponseFault u c.request) bytes x item reason (subst P same says) out

  pub form_kind : (bytes : List ℕ) (item : ℕ) (reason : OutsideKind) → c.response ≡ None → t.answer ≡ Some bytes → AreOutside (λ u. ResponseFault u c.request) bytes item reason
      → GivenFault g c t kind → kind ≡ AnswerForm
  form_kind bytes item reason lacks some out fault = by (parted fault)
    where
      by : FaultBy g c t kind → kind ≡ AnswerForm
      by (by_answer (answered x had any is)) = absurd cc
      by (by_answer (unanswered unended none is)) = absurd cc
      by (by_answer (formless others i k unended any outs is)) = is
      by (by_response x (recorded had none) f) = absurd cc
      by (by_response x (given others unended any says) f) = absurd (said_inside bytes others x item reason some any says out)

  -- ---- the response

  one_answer : (x y : ResponseOf) → IsAnswered c t x → IsAnswered c t y → x ≡ y
  one_answer x y (recorded had none) (recorded has nothing) = cc
  one_answer x y (recorded had none) (given bytes unended some says) = absurd cc
  one_answer x y (given bytes unended some says) (recorded had none) = absurd cc
  one_answer x y (given bytes unended some says) (given others lacks any reported) =
      let same : others ≡ bytes = cc in
      let P : List ℕ → Type 0 = λ bs. AreResponse c.request bs y in
      same_message (λ u. SaysResponse u c.request) (λ u. ResponseFault u c.request) bytes x y says (subst P same reported)

  answer_right : (x : ResponseOf) → IsAnswered c t x → IsAnswerFault c t kind → ⊥
  answer_right x (recorded had none) (answered y has some is) = some none
  answer_right x (recorded had none) (unanswered unended nothing is) = absurd cc
  answer_right x (recorded had none) (formless bytes i k unended some out is) = absurd cc
  answer_right x (given bytes unended some says) (answered y has any is) = absurd cc
  answer_right x (given bytes unended some says) (unanswered lacks nothing is) = absurd cc
  answer_right x (given bytes unended some says) (formless others i k lacks any out is) = said_inside others bytes x i k any some says out

  pub answered_fault : (response : ResponseOf) → IsAnswered c t response → GivenFault g c t kind → IsAnsweredFault g c.request response t kind
  answered_fault response had fault = by (parted fault)
    where
      by : FaultBy g c t kind → IsAnsweredFault g c.request response t kind
      by (by_answer f) = absurd (answer_right response had f)
      by (by_response x has f) = let P : ResponseOf → Type 0 = λ y. IsAnsweredFault g c.request y t kind in subst P (one_answer x response has had) f

-- ---- the moment, the places, the fills, the births, or what is set aside

-- what of a turn a kind of fault is about
abbrev about : WitnessKind → ℕ
about MomentForm = 1
about OrderNotWanted = 2
about OrderForm = 2
about BirthNotWanted = 3
about BirthForm = 3
about AsideForm = 4
about kind = 0

module _ (g : GrantsOf) (request : RequestOf) (response : ResponseOf) (t : TurnOf) (kind : WitnessKind) where
  about_places : PlacesFault request response t.places kind → about kind ≡ 2
  about_places (Places.unwanted some wants is) = ap about is
  about_places (Places.disordered some wants none is) = ap about is

  about_fills : FillFault request response t.fills kind → about kind ≡ 0
  about_fills (Fills.unwanted none is) = ap about is
  about_fills (Fills.missing all none is) = ap about is
  about_fills (Fills.misformed all none some is) = ap about is

  about_births : BirthFault g request response t.births kind → about kind ≡ 3
  about_births (Births.not_wanted none is) = ap about is
  about_births (Births.formless all some is) = ap about is

  pub moment_late : IsAnsweredFault g request response t kind → kind ≡ MomentForm → IsUntimely g response.stamp t.moment
  moment_late (of_moment late is) e = late
  moment_late (of_places f) e = let a = about_places f in let b = ap about e in absurd cc
  moment_late (of_fills f) e = let a = about_fills f in let b = ap about e in absurd cc
  moment_late (of_births f) e = let a = about_births f in let b = ap about e in absurd cc
  moment_late (of_asides some is) e = absurd cc

  places_left : IsAnsweredFault g request response t kind → about kind ≡ 2 → PlacesFault request response t.places kind
  places_left (of_moment late is) e = let a = ap about is in absurd cc
  places_left (of_places f) e = f
  places_left (of_fills f) e = let a = about_fills f in absurd cc
  places_left (of_births f) e = let a = about_births f in absurd cc
  places_left (of_asides some is) e = let a = ap about is in absurd cc

  pub order_unwanted : IsAnsweredFault g request response t kind → kind ≡ OrderNotWanted → (t.places ≢ []) × (WantsOrder request response → ⊥)
  order_unwanted fault e = by (places_left fault (ap about e))
    where
      by : PlacesFault request response t.places kind → (t.places ≢ []) × (WantsOrder request response → ⊥)
      by (Places.unwanted some wants is) = (some, wants)
      by (Places.disordered some wants none is) = absurd cc

  pub order_form : IsAnsweredFault g request response t kind → kind ≡ OrderForm → IsOrderless request response t.places
  order_form fault e = by (places_left fault (ap about e))
    where
      by : PlacesFault request response t.places kind → IsOrderless request response t.places
      by (Places.unwanted some wants is) = absurd cc
      by (Places.disordered some wants none is) = none

  births_left : IsAnsweredFault g request response t kind → about kind ≡ 3 → BirthFault g request response t.births kind
  births_left (of_moment late is) e = let a = ap about is in absurd cc
  births_left (of_places f) e = let a = about_places f in absurd cc
  births_left (of_fills f) e = let a = about_fills f in absurd cc
  births_left (of_births f) e = f
  births_left (of_asides some is) e = let a = ap about is in absurd cc

  pub birth_unwanted : IsAnsweredFault g request response t kind → kind ≡ BirthNotWanted → AreBirthsWanted request response t.births → ⊥
  birth_unwanted fault e = by (births_left fault (ap about e))
    where
      by : BirthFault g request response t.births kind → AreBirthsWanted request response t.births → ⊥
      by (Births.not_wanted none is) = none
      by (Births.formless all some is) = absurd cc

  pub birth_formless : IsAnsweredFault g request response t kind → kind ≡ BirthForm → AreBirthsWanted request response t.births × SomeMisformed g t.births
  birth_formless fault e = by (births_left fault (ap about e))
    where
      by : BirthFault g request response t.births kind → AreBirthsWanted request response t.births × SomeMisformed g t.births
      by (Births.not_wanted none is) = absurd cc
      by (Births.formless all some is) = (all, some)

  pub some_aside : IsAnsweredFault g request response t kind → kind ≡ AsideForm → t.asides ≢ []
  some_aside (of_moment late is) e = absurd cc
  some_aside (of_places f) e = let a = about_places f in let b = ap about e in absurd cc
  some_aside (of_fills f) e = let a = about_fills f in let b = ap about e in absurd cc
  some_aside (of_births f) e = let a = about_births f in let b = ap about e in absurd cc
  some_aside (of_asides some is) e = some

  pub fills_left : IsAnsweredFault g request response t kind → kind ≢ MomentForm → kind ≢ OrderNotWanted → kind ≢ OrderForm → kind ≢ BirthNotWanted → kind ≢ BirthForm → kind ≢ AsideForm
      → FillFault request response t.fills kind
  fills_left (of_moment late is) moment unwanted orderless birth unformed aside = absurd (moment is)
  fills_left (of_places (Places.unwanted some wants is)) moment unwanted orderless birth unformed aside = absurd (unwanted is)
  fills_left (of_places (Places.disordered some wants none is)) moment unwanted orderless birth unformed aside = absurd (orderless is)
  fills_left (of_fills fault) moment unwanted orderless birth unformed aside = fault
  fills_left (of_births (Births.not_wanted none is)) moment unwanted orderless birth unformed aside = absurd (birth is)
  fills_left (of_births (Births.formless all some is)) moment unwanted orderless birth unformed aside = absurd (unformed is)
  fills_left (of_asides some is) moment unwanted orderless birth unformed aside = absurd (aside is)

-- of fills that aren't wanted
pub fill_unwanted : (request : RequestOf) (response : ResponseOf) (fills : List FillOf) (kind : WitnessKind) → FillFault request response fills kind → kind ≡ FillNotWanted
    → AreWanted request response fills → ⊥
fill_unwanted request response fills kind (Fills.unwanted none is) e = none
fill_unwanted request response fills kind (Fills.missing all none is) e = absurd cc
fill_unwanted request response fills kind (Fills.misformed all none some is) e = absurd cc

-- what is told of an answer that can't be read
pub unread_told : (g : GrantsOf) (marks : List MarkOf) (c : CallOf) (t : TurnOf) (kind : WitnessKind) (bytes : List ℕ) (fault : ReadFault) → IsRecorded marks c → c.response ≡ None → t.answer ≡ Some bytes
    → AnswerSays c.request bytes (Err fault) → GivenFault g c t kind → IfOk (unread fault) (TellsGiven g c t kind)
unread_told g marks c t kind bytes (read.Outside o) r lacks some out fault =
    (form_kind g c t kind bytes o.item o.kind lacks some out fault, record { unended = has_no_end marks c r lacks; bytes = bytes; given = some; outside = out })
unread_told g marks c t kind bytes read.Memory r lacks some out fault = tt
