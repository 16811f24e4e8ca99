-- Whether an answer fits its request.
use Rattle.std.proofs.Common.{◌≡◌, ◌≢◌, ◌↔◌, ℕ, ◌==◌, ◌⊎◌, inl, inr, if◌then◌else◌, Bool, true, false, List, ◌∷◌, Option, Some, None, MatchOption, Result, Ok, Err, IfOk, IsTrue, refl, sym, ap, ◌∙◌, subst, []}
use Rattle.std.specs.Option.{option_map, option_copied}
use Rattle.std.proofs.lemmas.Bool.{eqb-true}
use Rattle.std.specs.declared.alloc.AllocError.{AllocError}
use denote.Bor.{Bor}
use Rattle.kmipa_ttlv.specs.Tree.{Tree, Trees, structure, scalar}
use Rattle.kmipa_ttlv.specs.ViewTree.{view_tree}
use Rattle.kmipa_ttlv.specs.declared.view.View.{View}
use Rattle.kmipa_attrs.specs.Fields.{at, first, as_enumeration}
use Rattle.kmipa_attrs.specs.Readings.{NeededFault, Reads}
use Rattle.kmipa_attrs.specs.Tags.{operation_tag, response_payload}
use Rattle.kmipa_attrs.specs.declared.fields.Field.{Field}
use Rattle.kmipa_attrs.specs.declared.fields.Field.TheVariants.{Absent, Wrong, There}
use Rattle.kmipa_attrs.specs.declared.side.Side.{Side}
use Rattle.kmipa_msgs.specs.AttributeFields.{GivenFault}
use Rattle.kmipa_msgs.specs.Gets.{GotFault}
use Rattle.kmipa_msgs.specs.Gets.GotFault.{in_type as in_got_type, in_type_number, in_shown_identifier, in_object, in_block}
use Rattle.kmipa_msgs.specs.GetsAttributes.{GotAttributesFault}
use Rattle.kmipa_msgs.specs.GetsAttributes.GotAttributesFault.{in_identifier as in_got_identifier, in_attributes, in_attribute_type}
use Rattle.kmipa_msgs.specs.KeyBlocks.{BlockFault}
use Rattle.kmipa_msgs.specs.KeyBlocks.BlockFault.{in_wrapping, in_format, in_format_number, in_value, in_material, in_algorithm, in_length}
use Rattle.kmipa_msgs.specs.Registers.{RegisteredFault}
use Rattle.kmipa_msgs.specs.Registers.RegisteredFault.{in_type, in_identifier}
use Rattle.kmipa_msgs.specs.Messages.{AskOf, AnswerOf, ask_of, idles, operation_asked}
use Rattle.kmipa_msgs.specs.Kinds.{kind_number}
use Rattle.kmipa_msgs.specs.Operations.{operation_number, operation_of}
use Rattle.kmipa_msgs.specs.Payloads.{DoneFault, PayloadOfFault}
use Rattle.kmipa_msgs.specs.Replies.{AnswerFault, JudgedFault, MaybeFault, RequiredFault, SaysAnswer, ShownFault, StatusFault, UnjudgedFault, answer_in, filled, named, or_empty, own}
use Rattle.kmipa_msgs.specs.Replies.AnswerFault.{in_operation, in_status, in_reason, in_payload}
use Rattle.kmipa_msgs.specs.Replies.StatusFault.{unread, pending, unknown}
use Rattle.kmipa_msgs.specs.Tables.{children}
use Rattle.kmipa_msgs.specs.declared.kind.OutsideKind.{OutsideKind}
use Rattle.kmipa_msgs.specs.declared.kind.OutsideKind.TheVariants as kind
use Rattle.kmipa_msgs.specs.declared.operation.Operation.{Operation}
use Rattle.kmipa_msgs.specs.declared.operation.Operation.TheVariants.{Create, Register, Locate, Get, GetAttributes, Activate, Revoke, Destroy, Idle, Other}
use Rattle.kmipa_msgs.specs.declared.request.Ask.{Ask}
use Rattle.kmipa_msgs.specs.declared.response.Status.{Status}
use Rattle.kmipa_msgs.specs.declared.response.Status.TheVariants.{Success, Failed, Undone}
use Rattle.kmipa_msgs.proofs.ReplyLemmas.{reads_answer}
use Rattle.kmipa_places.specs.Counting.{is_judged_operation}
use Rattle.kmipa_msgs.specs.Headers.{batch}
use Rattle.kmipa_places.specs.Fits.{AreFit, FitsAt, IsFitAnswer}
use Rattle.kmipa_places.specs.Openings.{AsksNumber, operation_in}
use Rattle.kmipa_places.specs.Unread.{IsUnread}

-- ---- no condition of a payload that is judged is that its operation isn't

needed_apart : {A : Type 0} (f : Field A) (absent wrong : OutsideKind) → kind.Operation ≢ absent → kind.Operation ≢ wrong → NeededFault f absent wrong kind.Operation → ⊥
needed_apart Absent absent wrong a w h = a h
needed_apart Wrong absent wrong a w h = w h
needed_apart (There x) absent wrong a w h = h

given_apart : (side : Side) (f : Field Trees) → GivenFault side f kind.Operation → ⊥
given_apart side Absent h = h
given_apart side Wrong h = cc
given_apart side (There ts) h = let e : kind.Operation ≡ kind.Attribute = h.0 in cc

block_apart : (ts : Trees) → BlockFault ts kind.Operation → ⊥
block_apart ts w = elim w [
  | in_wrapping e f ↦ cc
  | in_format f ↦ needed_apart _ kind.Missing kind.Missing (λ e. cc) (λ e. cc) f
  | in_format_number e f ↦ cc
  | in_value f ↦ needed_apart _ kind.Missing kind.Format (λ e. cc) (λ e. cc) f
  | in_material f ↦ needed_apart _ kind.Missing kind.Format (λ e. cc) (λ e. cc) f
  | in_algorithm e f ↦ cc
  | in_length e f ↦ cc
]

registered_apart : (ts : Trees) → RegisteredFault ts kind.Operation → ⊥
registered_apart ts w = elim w [ in_type e f ↦ cc | in_identifier f ↦ needed_apart _ kind.Missing kind.IdentifierForm (λ e. cc) (λ e. cc) f ]

got_apart : (ts : Trees) → GotFault ts kind.Operation → ⊥
got_apart ts w = elim w [
  | in_got_type e f ↦ cc
  | in_type_number e f ↦ cc
  | in_shown_identifier e f ↦ cc
  | in_object f ↦ needed_apart _ kind.Missing kind.Missing (λ e. cc) (λ e. cc) f
  | in_block f ↦ block_apart _ f
]

got_attributes_apart : (ts : Trees) → GotAttributesFault ts kind.Operation → ⊥
got_attributes_apart ts w = elim w [ in_got_identifier e f ↦ cc | in_attributes f ↦ given_apart _ _ f | in_attribute_type e f ↦ cc ]

done_apart : (operation : Operation) (ts : Trees) → is_judged_operation operation ≡ true → DoneFault operation ts kind.Operation → ⊥
done_apart Create ts j h = registered_apart ts h
done_apart Register ts j h = registered_apart ts h
done_apart Locate ts j h = let e : kind.Operation ≡ kind.IdentifierForm = h.0 in cc
done_apart Get ts j h = got_apart ts h
done_apart GetAttributes ts j h = got_attributes_apart ts h
done_apart Activate ts j h = let e : kind.Operation ≡ kind.IdentifierForm = h.0 in cc
done_apart Revoke ts j h = let e : kind.Operation ≡ kind.IdentifierForm = h.0 in cc
done_apart Destroy ts j h = let e : kind.Operation ≡ kind.IdentifierForm = h.0 in cc
done_apart (Idle n) ts j h = cc
done_apart (Other n) ts j h = cc

payload_apart : (operation : Operation) (t : Tree) → is_judged_operation operation ≡ true → PayloadOfFault operation t kind.Operation → ⊥
payload_apart operation (structure n ts) j h = done_apart operation ts j h
payload_apart operation (scalar n s) j h = cc

required_apart : (operation : Operation) (t : Option Tree) → is_judged_operation operation ≡ true → RequiredFault operation t kind.Operation → ⊥
required_apart operation None j h = cc
required_apart operation (Some t) j h = payload_apart operation t j h

maybe_apart : (operation : Operation) (t : Option Tree) → is_judged_operation operation ≡ true → MaybeFault operation t kind.Operation → ⊥
maybe_apart operation None j h = h
maybe_apart operation (Some t) j h = payload_apart operation t j h

judged_apart : (operation : Operation) (status : Status) (t : Option Tree) → is_judged_operation operation ≡ true → JudgedFault operation status t kind.Operation → ⊥
judged_apart operation Success t j h = required_apart operation (or_empty operation t) j h
judged_apart operation Failed t j h = h
judged_apart operation Undone t j h = maybe_apart operation (filled t) j h

shown_apart : (operation : Operation) (status : Status) (t : Option Tree) → is_judged_operation operation ≡ true → ShownFault (Some operation) status t kind.Operation → ⊥
shown_apart (Idle n) status t j h = h
shown_apart (Other n) status t j h = cc
shown_apart operation status t j h = judged_apart operation status t j h

-- ---- the operation that is answered, by that of the item

abbrev own_by : Operation → Field ℕ → Option Operation
own_by operation Absent = Some operation
own_by operation Wrong = None
own_by operation (There n) = named n operation

own_is : (ask : AskOf) (f : Field ℕ) → own (Some ask) f ≡ own_by (operation_asked ask.asked) f
own_is ask Absent = refl
own_is ask Wrong = refl
own_is ask (There n) = refl

-- it is that, or none
own_case : (operation : Operation) (f : Field ℕ) (P : Option Operation → Type 0) (R : Type 0) → (P None → R) → (P (Some operation) → R) → P (own_by operation f) → R
own_case operation Absent P R none some p = some p
own_case operation Wrong P R none some p = none p
own_case operation (There n) P R none some p = by (n == operation_number operation) p
  where
    by : (b : Bool) → P (if b then Some operation else None) → R
    by true q = some q
    by false q = none q

own_apart : (operation : Operation) (f : Field ℕ) (status : Status) (t : Option Tree) → is_judged_operation operation ≡ true → ShownFault (own_by operation f) status t kind.Operation → ⊥
own_apart operation f status t j = own_case operation f (λ o. ShownFault o status t kind.Operation) ⊥ (λ h. h) (shown_apart operation status t j)

unjudged_only : (status : Status) (k : OutsideKind) → UnjudgedFault status k → k ≡ kind.Operation
unjudged_only Success k h = h
unjudged_only Failed k h = absurd h
unjudged_only Undone k h = h

-- that it isn't judged is the only condition of a payload that isn't
shown_only : (operation : Operation) (status : Status) (t : Option Tree) (k : OutsideKind) → is_judged_operation operation ≡ false → ShownFault (Some operation) status t k → k ≡ kind.Operation
shown_only (Idle n) status t k j h = absurd h
shown_only (Other n) status t k j h = unjudged_only status k h
shown_only operation status t k j h = cc

own_only : (operation : Operation) (f : Field ℕ) (status : Status) (t : Option Tree) (k : OutsideKind) → is_judged_operation operation ≡ false → ShownFault (own_by operation f) status t k → k ≡ kind.Operation
own_only operation f status t k j = own_case operation f (λ o. ShownFault o status t k) (k ≡ kind.Operation) (λ h. absurd h) (shown_only operation status t k j)

-- ---- conditions of answers

status_apart : (f : Field ℕ) → StatusFault f kind.Operation → ⊥
status_apart f w = elim w [ unread a ↦ needed_apart f kind.Missing kind.Missing (λ e. cc) (λ e. cc) a | pending e g ↦ cc | unknown n e g above ↦ cc ]

answer_apart : (ask : AskOf) (u : Tree) → is_judged_operation (operation_asked ask.asked) ≡ true → AnswerFault (Some ask) u kind.Operation → ⊥
answer_apart ask u j w = elim w [
  | in_operation e f ↦ cc
  | in_status f ↦ status_apart _ f
  | in_reason e f ↦ cc
  | in_payload status l f ↦ (
      let name = at as_enumeration operation_tag (children u) in
      let shown = first response_payload (children u) in
      let P : Option Operation → Type 0 = λ o. ShownFault o status shown kind.Operation in
      own_apart (operation_asked ask.asked) name status shown j (subst P (own_is ask name) f))
]

bare_apart : (u : Tree) → AnswerFault None u kind.Operation → ⊥
bare_apart u w = elim w [ in_operation e f ↦ cc | in_status f ↦ status_apart _ f | in_reason e f ↦ cc | in_payload status l f ↦ f ]

-- what stands outside of the payload, or that its operation isn't judged
bare_or : (ask : AskOf) (u : Tree) (k : OutsideKind) → is_judged_operation (operation_asked ask.asked) ≡ false → AnswerFault (Some ask) u k → (k ≡ kind.Operation) ⊎ AnswerFault None u k
bare_or ask u k j w = elim w [
  | in_operation e f ↦ inr (in_operation e f)
  | in_status f ↦ inr (in_status f)
  | in_reason e f ↦ inr (in_reason e f)
  | in_payload status l f ↦ (
      let name = at as_enumeration operation_tag (children u) in
      let shown = first response_payload (children u) in
      let P : Option Operation → Type 0 = λ o. ShownFault o status shown k in
      inl (own_only (operation_asked ask.asked) name status shown k j (subst P (own_is ask name) f)))
]

of_bare : (ask : AskOf) (u : Tree) (k : OutsideKind) → AnswerFault None u k → AnswerFault (Some ask) u k
of_bare ask u k w = elim w [ in_operation e f ↦ in_operation e f | in_status f ↦ in_status f | in_reason e f ↦ in_reason e f | in_payload status l f ↦ absurd f ]

-- items that ask for one operation have one answer's conditions
of_same : (ask other : AskOf) (u : Tree) (k : OutsideKind) → operation_asked other.asked ≡ operation_asked ask.asked → AnswerFault (Some other) u k → AnswerFault (Some ask) u k
of_same ask other u k same w = elim w [
  | in_operation e f ↦ in_operation e f
  | in_status f ↦ in_status f
  | in_reason e f ↦ in_reason e f
  | in_payload status l f ↦ (
      let name = at as_enumeration operation_tag (children u) in
      let shown = first response_payload (children u) in
      let P : Option Operation → Type 0 = λ o. ShownFault o status shown k in
      in_payload status l (subst P (own_is other name ∙ ap (λ (o : Operation). own_by o name) same ∙ sym (own_is ask name)) f))
]

-- ---- numbers of operations

numbered : (operation : Operation) → is_judged_operation operation ≡ true → operation_of (operation_number operation) ≡ operation
numbered Create j = refl
numbered Register j = refl
numbered Locate j = refl
numbered Get j = refl
numbered GetAttributes j = refl
numbered Activate j = refl
numbered Revoke j = refl
numbered Destroy j = refl
numbered (Idle n) j = cc
numbered (Other n) j = cc

number_of : (n : ℕ) → operation_number (operation_of n) ≡ n
number_of n = by (n == 1) (n == 3) (n == 8) (n == 10) (n == 11) (n == 18) (n == 19) (n == 20) (n == 24) (n == 30) (λ e. eqb-true n 1 e) (λ e. eqb-true n 3 e) (λ e. eqb-true n 8 e) (λ e. eqb-true n 10 e) (λ e. eqb-true n 11 e) (λ e. eqb-true n 18 e) (λ e. eqb-true n 19 e) (λ e. eqb-true n 20 e)
  where
    of : Bool → Bool → Bool → Bool → Bool → Bool → Bool → Bool → Bool → Bool → Operation
    of a b c d e f g h i j =
        if a then Create
        else if b then Register
        else if c then Locate
        else if d then Get
        else if e then GetAttributes
        else if f then Activate
        else if g then Revoke
        else if h then Destroy
        else if i then Idle n
        else if j then Idle n
        else Other n

    by : (a b c d e f g h i j : Bool) → (a ≡ true → n ≡ 1) → (b ≡ true → n ≡ 3) → (c ≡ true → n ≡ 8) → (d ≡ true → n ≡ 10) → (e ≡ true → n ≡ 11) → (f ≡ true → n ≡ 18) → (g ≡ true → n ≡ 19) → (h ≡ true → n ≡ 20)
        → operation_number (of a b c d e f g h i j) ≡ n
    by true b c d e f g h i j p q r s t u v w = sym (p refl)
    by false true c d e f g h i j p q r s t u v w = sym (q refl)
    by false false true d e f g h i j p q r s t u v w = sym (r refl)
    by false false false true e f g h i j p q r s t u v w = sym (s refl)
    by false false false false true f g h i j p q r s t u v w = sym (t refl)
    by false false false false false true g h i j p q r s t u v w = sym (u refl)
    by false false false false false false true h i j p q r s t u v w = sym (v refl)
    by false false false false false false false true i j p q r s t u v w = sym (w refl)
    by false false false false false false false false true j p q r s t u v w = refl
    by false false false false false false false false false true p q r s t u v w = refl
    by false false false false false false false false false false p q r s t u v w = refl

-- ---- whether an answer fits

module _ (n : ℕ) (u : Tree) where
  -- an item that asks for the operation of this number, where it is judged
  same_asked : (other : AskOf) → operation_number (operation_asked other.asked) ≡ n → is_judged_operation (operation_asked other.asked) ≡ true → operation_of n ≡ operation_asked other.asked
  same_asked other is j = ap operation_of (sym is) ∙ numbered (operation_asked other.asked) j

  fits_judged : (ask : AskOf) → operation_asked ask.asked ≡ operation_of n → ((k : OutsideKind) → AnswerFault (Some ask) u k → ⊥) → FitsAt (There n) u
  fits_judged ask is right k w = by (is_judged_operation (operation_asked w.0.asked)) refl
    where
      by : (b : Bool) → is_judged_operation (operation_asked w.0.asked) ≡ b → k ≡ kind.Operation
      by true j = absurd (right k (of_same ask w.0 u k (sym (same_asked w.0 w.1 j) ∙ sym is) w.2))
      by false j = elim (bare_or w.0 u k j w.2) [ inl e ↦ e | inr f ↦ absurd (right k (of_bare ask u k f)) ]

  fits_unjudged : is_judged_operation (operation_of n) ≡ false → ((k : OutsideKind) → AnswerFault None u k → ⊥) → FitsAt (There n) u
  fits_unjudged none right k w = by (is_judged_operation (operation_asked w.0.asked)) refl
    where
      by : (b : Bool) → is_judged_operation (operation_asked w.0.asked) ≡ b → k ≡ kind.Operation
      by true j = let bad : true ≡ false = sym j ∙ ap is_judged_operation (sym (same_asked w.0 w.1 j)) ∙ none in cc
      by false j = elim (bare_or w.0 u k j w.2) [ inl e ↦ e | inr f ↦ absurd (right k f) ]

  misfits_judged : (ask : AskOf) → is_judged_operation (operation_of n) ≡ true → operation_asked ask.asked ≡ operation_of n → (k : OutsideKind) → AnswerFault (Some ask) u k → FitsAt (There n) u → ⊥
  misfits_judged ask j is k f fit =
      let asks : operation_number (operation_asked ask.asked) ≡ n = ap operation_number is ∙ number_of n in
      let F : OutsideKind → Type 0 = λ i. AnswerFault (Some ask) u i in
      answer_apart ask u (ap is_judged_operation is ∙ j) (subst F (fit k (ask, asks, f)) f)

  misfits_unjudged : (k : OutsideKind) → AnswerFault None u k → FitsAt (There n) u → ⊥
  misfits_unjudged k f fit =
      let ask : AskOf = record { batch_id = None; asked = idles n } in
      let F : OutsideKind → Type 0 = λ i. AnswerFault None u i in
      bare_apart u (subst F (fit k (ask, refl, of_bare ask u k f)) f)

pub fits : (operation : Field ℕ) (u : Tree) (ask : Option AskOf) → AsksNumber operation ask → ((k : OutsideKind) → AnswerFault ask u k → ⊥) → FitsAt operation u
fits Absent u ask e right = λ k f. let F : Option AskOf → Type 0 = λ a. AnswerFault a u k in absurd (right k (subst F (sym e) f))
fits Wrong u ask e right = λ k f. let F : Option AskOf → Type 0 = λ a. AnswerFault a u k in absurd (right k (subst F (sym e) f))
fits (There n) u None e right = fits_unjudged n u e right
fits (There n) u (Some ask) e right = fits_judged n u ask e.1 right

bare_misfits : (u : Tree) (ask : Option AskOf) → ask ≡ None → (k : OutsideKind) → AnswerFault ask u k → ((i : OutsideKind) → AnswerFault None u i → i ≡ kind.Operation) → ⊥
bare_misfits u ask e k f fit =
    let A : Option AskOf → Type 0 = λ a. AnswerFault a u k in
    let F : OutsideKind → Type 0 = λ i. AnswerFault None u i in
    let g = subst A e f in
    bare_apart u (subst F (fit k g) g)

pub misfits : (operation : Field ℕ) (u : Tree) (ask : Option AskOf) → AsksNumber operation ask → (k : OutsideKind) → AnswerFault ask u k → FitsAt operation u → ⊥
misfits Absent u ask e k f fit = bare_misfits u ask e k f fit
misfits Wrong u ask e k f fit = bare_misfits u ask e k f fit
misfits (There n) u None e k f fit = misfits_unjudged n u k f fit
misfits (There n) u (Some ask) e k f fit = misfits_judged n u ask e.0 e.1 k f fit

-- as the answer is read beside such an item
pub read_fits : (operation : Field ℕ) (u : Tree) (ask : Option AskOf) (answer : AnswerOf) → AsksNumber operation ask → Ok answer ≡ answer_in ask u → IsTrue true ↔ FitsAt operation u
read_fits operation u ask answer e is =
    let P : Result AnswerOf OutsideKind → Type 0 = λ r. Reads kind_number (SaysAnswer ask u) (AnswerFault ask u) r in
    (λ h. fits operation u ask e (subst P (sym is) (reads_answer ask u)).right, λ w. refl)

pub read_misfits : (operation : Field ℕ) (u : Tree) (ask : Option AskOf) (k : OutsideKind) → AsksNumber operation ask → Err k ≡ answer_in ask u → IsTrue false ↔ FitsAt operation u
read_misfits operation u ask k e is =
    let P : Result AnswerOf OutsideKind → Type 0 = λ r. Reads kind_number (SaysAnswer ask u) (AnswerFault ask u) r in
    (λ h. (let bad : false ≡ true = h in cc), λ w. absurd (misfits operation u ask e k (subst P (sym is) (reads_answer ask u)).here w))

-- the item as it is lent
pub ask_lent : (r : Option (Bor Ask)) (o : Option Ask) → option_copied r ≡ o → option_map (λ a. ask_of a.now) r ≡ option_map ask_of o
ask_lent None o e = ap (option_map ask_of) e
ask_lent (Some a) o e = ap (option_map ask_of) e

-- ---- answers, one after the other

-- those that are left fit, as all do
abbrev pub FitOn : List Tree → List Tree → List Tree → List Tree → Type 0
FitOn asks answers ts us = (AreFit asks answers → AreFit ts us) × (AreFit ts us → AreFit asks answers)

fit_step : (asks rest answers others : List Tree) (item : Option View) (u : Tree) (operation : Field ℕ) → MatchOption item (asks ≡ []) (λ v. asks ≡ view_tree v ∷ rest) → (item ≡ None → rest ≡ [])
    → operation ≡ operation_in (option_map view_tree item) → answers ≡ u ∷ others → AreFit asks answers ↔ (FitsAt operation u × AreFit rest others)
fit_step asks rest answers others None u operation e g oe ue =
    (λ h. let x = subst P e (subst Q ue h) in (subst O (sym oe) x.0, subst R (sym (g refl)) x.1), λ h. subst Q (sym ue) (subst P (sym e) (subst O oe h.0, subst R (g refl) h.1)))
  where
    P : List Tree → Type 0
    P xs = AreFit xs (u ∷ others)

    Q : List Tree → Type 0
    Q ys = AreFit asks ys

    O : Field ℕ → Type 0
    O f = FitsAt f u

    R : List Tree → Type 0
    R xs = AreFit xs others
fit_step asks rest answers others (Some v) u operation e g oe ue =
    (λ h. let x = subst P e (subst Q ue h) in (subst O (sym oe) x.0, x.1), λ h. subst Q (sym ue) (subst P (sym e) (subst O oe h.0, h.1)))
  where
    P : List Tree → Type 0
    P xs = AreFit xs (u ∷ others)

    Q : List Tree → Type 0
    Q ys = AreFit asks ys

    O : Field ℕ → Type 0
    O f = FitsAt f u

-- an answer that fits
pub fit_next : (asks rest answers others ts us : List Tree) (item : Option View) (u : Tree) (operation : Field ℕ) → MatchOption item (asks ≡ []) (λ v. asks ≡ view_tree v ∷ rest) → (item ≡ None → rest ≡ [])
    → operation ≡ operation_in (option_map view_tree item) → answers ≡ u ∷ others → FitsAt operation u → FitOn asks answers ts us → FitOn rest others ts us
fit_next asks rest answers others ts us item u operation e g oe ue fit on =
    let step = fit_step asks rest answers others item u operation e g oe ue in
    (λ h. on.0 (step.1 (fit, h)), λ h. (step.0 (on.1 h)).1)

-- one that doesn't
pub fit_not : (asks rest answers others ts us : List Tree) (item : Option View) (u : Tree) (operation : Field ℕ) → MatchOption item (asks ≡ []) (λ v. asks ≡ view_tree v ∷ rest) → (item ≡ None → rest ≡ [])
    → operation ≡ operation_in (option_map view_tree item) → answers ≡ u ∷ others → (FitsAt operation u → ⊥) → FitOn asks answers ts us → IsTrue false ↔ AreFit ts us
fit_not asks rest answers others ts us item u operation e g oe ue fit on =
    let step = fit_step asks rest answers others item u operation e g oe ue in
    (λ h. (let bad : false ≡ true = h in cc), λ h. absurd (fit (step.0 (on.1 h)).0))

-- and none is left
pub fit_end : (asks answers ts us : List Tree) → answers ≡ [] → FitOn asks answers ts us → IsTrue true ↔ AreFit ts us
fit_end asks answers ts us e on =
    let P : List Tree → Type 0 = λ ys. AreFit asks ys in
    (λ h. on.0 (subst P (sym e) (none asks)), λ h. refl)
  where
    none : (xs : List Tree) → AreFit xs []
    none xs = tt

-- ---- the call

pub unread_misfits : (request answer : Option Tree) → IsUnread request answer [] → IsTrue false ↔ IsFitAnswer request answer
unread_misfits request answer w = (λ h. (let bad : false ≡ true = h in cc), λ f. absurd (by request answer w f))
  where
    by : (r a : Option Tree) → IsUnread r a [] → IsFitAnswer r a → ⊥
    by (Some t) (Some u) v f = f.0 v
    by (Some t) None v f = f
    by None a v f = f

pub fit_call : (t u : Tree) (asks answers : List Tree) (r : Result Bool AllocError) → (IsUnread (Some t) (Some u) [] → ⊥) → asks ≡ batch t → answers ≡ batch u
    → IfOk r (λ reported. IsTrue reported ↔ AreFit asks answers) → IfOk r (λ reported. IsTrue reported ↔ IsFitAnswer (Some t) (Some u))
fit_call t u asks answers (Err e) n ae be h = tt
fit_call t u asks answers (Ok reported) n ae be h =
    let P : List Tree → Type 0 = λ xs. IsTrue reported ↔ AreFit xs answers in
    let Q : List Tree → Type 0 = λ ys. IsTrue reported ↔ AreFit (batch t) ys in
    let k = subst Q be (subst P ae h) in
    (λ x. (n, k.0 x), λ f. k.1 f.1)
