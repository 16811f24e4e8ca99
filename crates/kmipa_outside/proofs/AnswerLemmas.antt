-- What is told of an item of a response, and what is at fault with it.
use Rattle.std.proofs.Common.{◌≡◌, ◌≢◌, ◌⊎◌, ◌<◌, ◌≤◌, ℕ, zero, suc, Bool, true, false, not, ◌==◌, cond, if◌then◌else◌, is_some, nat_lt, List, [], ◌∷◌, ◌++◌, length, slice_get, option_and_then, Option, Some, None, refl, sym, ap, ◌∙◌, subst, inl, inr, arith, eqb-true, ltb-false, lt-ltb}
use Rattle.kmipa_ttlv.specs.Tree.{Tree, Trees, structure, scalar, none, more, tag_of}
use Rattle.kmipa_attrs.specs.Attributes.{each}
use Rattle.kmipa_attrs.specs.Fields.{first, every, at, inside, in_field, typed, field_of, value_in, as_structure, as_enumeration, as_text}
use Rattle.kmipa_attrs.specs.Readings.{IsWrong, NeededFault}
use Rattle.kmipa_attrs.specs.Tags.{attributes_tag, object_type_tag, operation_tag, response_header_tag, response_message, response_payload, result_reason, result_status, unique_identifier}
use Rattle.kmipa_attrs.specs.declared.fields.Field.{Field}
use Rattle.kmipa_attrs.specs.declared.fields.Field.TheVariants.{Absent, Wrong, There}
use Rattle.kmipa_msgs.specs.declared.kind.OutsideKind.{OutsideKind}
use Rattle.kmipa_msgs.specs.declared.kind.OutsideKind.TheVariants.{Missing, Pending}
use Rattle.kmipa_msgs.specs.declared.kind.OutsideKind.TheVariants as kind
use Rattle.kmipa_msgs.specs.declared.operation.Operation.{Operation}
use Rattle.kmipa_msgs.specs.declared.operation.Operation.TheVariants as operation
use Rattle.kmipa_msgs.specs.declared.response.Status.{Status}
use Rattle.kmipa_msgs.specs.declared.response.Status.TheVariants.{Success, Failed, Undone}
use Rattle.kmipa_msgs.specs.GetsAttributes.{GotAttributesFault as got_attributes}
use Rattle.kmipa_msgs.specs.Headers.{batch}
use Rattle.kmipa_msgs.specs.Messages.{AskOf, RequestOf}
use Rattle.kmipa_msgs.specs.Numbers.{status_of}
use Rattle.kmipa_msgs.specs.Operations.{is_judged}
use Rattle.kmipa_msgs.specs.Outside.{EachFault}
use Rattle.kmipa_msgs.specs.Payloads.{DoneFault, PayloadOfFault}
use Rattle.kmipa_msgs.specs.Replies.{AnswerFault, JudgedFault, MaybeFault, RequiredFault, ShownFault, StatusFault, UnjudgedFault, filled, is_bare, may_be_bare, or_empty, own}
use Rattle.kmipa_msgs.specs.Replies.{AnswerFault as answer}
use Rattle.kmipa_msgs.specs.Replies.{StatusFault as status}
use Rattle.kmipa_msgs.specs.Tables.{Listed, Unlisted, children}
use Rattle.kmipa_outside.specs.Demands.{Fails, fails}
use Rattle.kmipa_outside.specs.Demands as demands
use Rattle.kmipa_outside.specs.DoneDemands.{answer_demands}
use Rattle.kmipa_outside.specs.HeaderDemands.{response_header_demands}
use Rattle.kmipa_outside.specs.Laws.{AnyOf, Each, IsBroken, ResponseFieldsAreReasons}
use Rattle.kmipa_outside.specs.Requests.{header_demand, of_item}
use Rattle.kmipa_outside.specs.Responses.{answer_told, judged_as, outcome_demands, response_fields, shape_wanted, shown_as, shown_demands, shown_in, status_in}
use Rattle.kmipa_outside.specs.Tables.{done_demands}
use Rattle.kmipa_outside.specs.declared.demand.Demand.{Demand}
use Rattle.kmipa_outside.specs.declared.demand.Numbers.TheVariants as numbers
use Rattle.kmipa_outside.specs.declared.demand.Wanted.TheVariants as wanted
use Rattle.kmipa_outside.specs.declared.shown.Shown.{Shown}
use Rattle.kmipa_outside.specs.declared.shown.Shown.TheVariants.{Unread, Unjudged, Judged}
use Rattle.kmipa_outside.specs.declared.types.ItemType.TheVariants as type
use Rattle.kmipa_outside.proofs.FailLemmas.{Fail, FailAt, at_first, of_first, decides_structure, decides_enumeration, wrong, fails_wrong, needed, fails_needed}
use Rattle.kmipa_outside.proofs.FindLemmas.{done_demanded}
use Rattle.kmipa_outside.proofs.HeaderLemmas.{response_header_reasons, response_header_finds}
use Rattle.kmipa_outside.proofs.NumberLemmas.{IsOfNumbers, number, fails_number, of_numbers}
use Rattle.kmipa_outside.proofs.ReasonLemmas.{done_reasons}
use Rattle.kmipa_outside.proofs.ToldLemmas.{any_left, any_reason, any_right, any_split, both_told, each_from, each_to, told_both}

-- ---- the status

of_other : (m : ℕ) → IsOfNumbers (wanted.Other m)
of_other m = record { numbers = λ t. refl; over = refl }

not_off : (b : Bool) → not b ≡ false → b ≡ true
not_off true e = refl
not_off false e = let h : true ≡ false = e in cc

-- 2 is Pending
pending_told : (ts : Trees) → Fail (wanted.Other 2) result_status ts → StatusFault (at as_enumeration result_status ts) Pending
pending_told ts e =
    let w = number (wanted.Other 2) (of_other 2) result_status ts e refl in
    let two : w.0 ≡ 2 = eqb-true _ _ (not_off (w.0 == 2) w.2) in
    status.pending refl (w.1 ∙ ap (λ (x : ℕ). There x) two)

below_four : (x : ℕ) → nat_lt x 4 ≡ false → 3 < x
below_four x e = let h : 4 ≤ x = ltb-false _ _ e in omega (arith, h)

unknown_told : (ts : Trees) → Fail (wanted.OneOf numbers.Statuses) result_status ts → StatusFault (at as_enumeration result_status ts) Missing
unknown_told ts e =
    let w = number (wanted.OneOf numbers.Statuses) (of_numbers numbers.Statuses) result_status ts e refl in
    status.unknown w.0 refl w.1 (below_four w.0 w.2)

answer_each : (a : Option AskOf) (t : Tree) → Each (λ (d : Demand). Fails d (children t) → AnswerFault a t d.kind) answer_demands
answer_each a t = (
  (λ e. answer.in_operation refl (wrong as_enumeration type.Enumeration decides_enumeration operation_tag (children t) e)),
  (
    (λ e. answer.in_status (status.unread (needed as_enumeration type.Enumeration decides_enumeration result_status (children t) Missing e))),
    (
      (λ e. answer.in_status (pending_told (children t) e)),
      (
        (λ e. answer.in_status (unknown_told (children t) e)),
        (
          (λ e. answer.in_reason refl (wrong as_enumeration type.Enumeration decides_enumeration result_reason (children t) e)),
          tt,
        ),
      ),
    ),
  ),
)

-- a number that is read as a status is 1 exactly of what failed
one_of_three : (a b c : Bool) → (if a then Some Success else if b then Some Failed else if c then Some Undone else None) ≡ Some Failed → b ≡ true
one_of_three true b c e = cc
one_of_three false true c e = refl
one_of_three false false true e = cc
one_of_three false false false e = cc

failed_is_one : (x : ℕ) → status_of x ≡ Some Failed → (x == 1) ≡ true
failed_is_one x e = one_of_three (x == 0) (x == 1) (x == 3) e

other_than_one : (a b c : Bool) (s : Status) → (if a then Some Success else if b then Some Failed else if c then Some Undone else None) ≡ Some s → (a ≡ true → b ≡ true → ⊥) → (s ≡ Failed → ⊥) → b ≡ false
other_than_one true true c s e apart other = absurd (apart refl refl)
other_than_one true false c s e apart other = refl
other_than_one false true c s e apart other = let h : Failed ≡ s = cc in absurd (other (sym h))
other_than_one false false c s e apart other = refl

not_one : (x : ℕ) (s : Status) → status_of x ≡ Some s → (s ≡ Failed → ⊥) → (x == 1) ≡ false
not_one x s e other = other_than_one (x == 0) (x == 1) (x == 3) s e (λ p q. let h : x ≡ 0 = eqb-true _ _ p in let g : x ≡ 1 = eqb-true _ _ q in omega (arith, h, g)) other

listed_is : (ts : Trees) (s : Status) → Listed (at as_enumeration result_status ts) status_of s → status_in ts ≡ Some s
listed_is ts s l = ap (λ (f : Field ℕ). option_and_then status_of (value_in f)) l.is ∙ l.listed

is_listed : (f : Field ℕ) (s : Status) → option_and_then status_of (value_in f) ≡ Some s → Listed f status_of s
is_listed Absent s e = cc
is_listed Wrong s e = cc
is_listed (There n) s e = record { number = n; is = refl; listed = e }

-- ---- the payload

-- a shape that fails on the first Response Payload
shape_at : (required : Bool) (ts : Trees) → is_some (fails (shape_wanted required) (every response_payload ts)) ≡ true → FailAt (shape_wanted required) (first response_payload ts)
shape_at true ts e = at_first (wanted.Typed type.Structure) response_payload ts e
shape_at false ts e = at_first (wanted.MaybeTyped type.Structure) response_payload ts e

shape_of : (required : Bool) (ts : Trees) → FailAt (shape_wanted required) (first response_payload ts) → is_some (fails (shape_wanted required) (every response_payload ts)) ≡ true
shape_of true ts e = of_first (wanted.Typed type.Structure) response_payload ts e
shape_of false ts e = of_first (wanted.MaybeTyped type.Structure) response_payload ts e

-- a payload that is to be read and is no structure, or that lacks
shape_reason : (o : Operation) (bare : Bool) → may_be_bare o ≡ bare → (p : Option Tree) → FailAt (shape_wanted (not bare)) p → RequiredFault o (or_empty o p) Missing
shape_reason o true e None h = let g : false ≡ true = h in cc
shape_reason o false e None h = let P : Bool → Type 0 = λ c. RequiredFault o (cond c (Some (structure response_payload none)) None) Missing in subst P (sym e) refl
shape_reason o bare e (Some (scalar n s)) h = refl
shape_reason o true e (Some (structure n us)) h = let g : false ≡ true = h in cc
shape_reason o false e (Some (structure n us)) h = let g : false ≡ true = h in cc

-- what fails in a payload that is there
inner_reason : (o : Operation) (required : Bool) (p : Option Tree) (k : OutsideKind) → AnyOf (IsBroken k (in_field (typed as_structure p))) (shown_demands (Judged o required) (typed as_structure p))
    → (t : Tree) × (p ≡ Some t) × PayloadOfFault o t k
unfolding as_structure
inner_reason o required None k h = absurd h
inner_reason o required (Some (scalar n s)) k h = absurd h
inner_reason o required (Some (structure n us)) k h = (structure n us, refl, any_reason (DoneFault o us) us k (done_demands o) (done_reasons o us) h)

-- what fails of an answer, by how its payload is read
abbrev FailsSo : OutsideKind → Trees → Option Tree → Shown → Type 0
FailsSo k ts p shown = AnyOf (IsBroken k ts) (outcome_demands shown) ⊎ AnyOf (IsBroken k (in_field (typed as_structure p))) (shown_demands shown (typed as_structure p))

unread_fails : (k : OutsideKind) (ts : Trees) (p : Option Tree) → FailsSo k ts p Unread → ⊥
unread_fails k ts p (inl h) = h
unread_fails k ts p (inr h) = h

success_reason : (o : Operation) (k : OutsideKind) (ts : Trees) → FailsSo k ts (first response_payload ts) (Judged o (not (may_be_bare o))) → RequiredFault o (or_empty o (first response_payload ts)) k
success_reason o k ts (inl h) = elim h [
  | inl q ↦ let P : OutsideKind → Type 0 = λ j. RequiredFault o (or_empty o (first response_payload ts)) j in
      subst P q.0 (shape_reason o (may_be_bare o) refl (first response_payload ts) (shape_at (not (may_be_bare o)) ts q.1))
  | inr q ↦ absurd q
]
success_reason o k ts (inr h) =
    let g = inner_reason o (not (may_be_bare o)) (first response_payload ts) k h in
    let P : Option Tree → Type 0 = λ p. RequiredFault o (or_empty o p) k in
    subst P (sym g.1) g.2

maybe_shape : (o : Operation) (t : Tree) → FailAt (wanted.MaybeTyped type.Structure) (Some t) → PayloadOfFault o t Missing
maybe_shape o (scalar n s) h = refl
maybe_shape o (structure n us) h = let g : false ≡ true = h in cc

undone_by : (o : Operation) (k : OutsideKind) (ts : Trees) (t : Tree) (bare : Bool) → first response_payload ts ≡ Some t
    → FailsSo k ts (Some t) (cond (is_some (if bare then None else Some t)) (Judged o false) Unread) → MaybeFault o (if bare then None else Some t) k
undone_by o k ts t true e h = absurd (unread_fails k ts (Some t) h)
undone_by o k ts t false e (inl h) = elim h [
  | inl q ↦ let P : OutsideKind → Type 0 = λ j. PayloadOfFault o t j in
      let F : Option Tree → Type 0 = λ p. FailAt (wanted.MaybeTyped type.Structure) p in
      subst P q.0 (maybe_shape o t (subst F e (shape_at false ts q.1)))
  | inr q ↦ absurd q
]
undone_by o k ts t false e (inr h) =
    let g = inner_reason o false (Some t) k h in
    let same : g.0 ≡ t = cc in
    let P : Tree → Type 0 = λ u. PayloadOfFault o u k in
    subst P same g.2

undone_reason : (o : Operation) (k : OutsideKind) (ts : Trees) (p : Option Tree) → first response_payload ts ≡ p → FailsSo k ts p (judged_as o Undone p) → MaybeFault o (filled p) k
undone_reason o k ts None e h = absurd (unread_fails k ts None h)
undone_reason o k ts (Some t) e h = undone_by o k ts t (is_bare t) e h

judged_reason : (o : Operation) (s : Status) (k : OutsideKind) (ts : Trees) → FailsSo k ts (first response_payload ts) (judged_as o s (first response_payload ts))
    → JudgedFault o s (first response_payload ts) k
judged_reason o Success k ts h = success_reason o k ts h
judged_reason o Failed k ts h = absurd (unread_fails k ts (first response_payload ts) h)
judged_reason o Undone k ts h = undone_reason o k ts (first response_payload ts) refl h

-- an operation that isn't judged, and didn't fail
unjudged_reason : (s : Status) (k : OutsideKind) → (s ≡ Failed → ⊥) → kind.Operation ≡ k → UnjudgedFault s k
unjudged_reason Success k other e = sym e
unjudged_reason Undone k other e = sym e
unjudged_reason Failed k other e = absurd (other refl)

-- the number that isn't 1 is that of no failure
failure_off : (ts : Trees) (s : Status) → status_in ts ≡ Some s → Fail (wanted.OneOf numbers.Failure) result_status ts → s ≡ Failed → ⊥
failure_off ts s known e failed =
    let w = number (wanted.OneOf numbers.Failure) (of_numbers numbers.Failure) result_status ts e refl in
    let says : status_of w.0 ≡ Some Failed = sym (ap (λ (f : Field ℕ). option_and_then status_of (value_in f)) w.1) ∙ known ∙ ap (λ (x : Status). Some x) failed in
    let clash : true ≡ false = sym (failed_is_one w.0 says) ∙ w.2 in
    cc

shown_reason : (o : Option Operation) (s : Option Status) (k : OutsideKind) (ts : Trees) → status_in ts ≡ s → FailsSo k ts (first response_payload ts) (shown_as o s (first response_payload ts))
    → (known : Status) × (s ≡ Some known) × ShownFault o known (first response_payload ts) k
shown_reason None s k ts e h = absurd (unread_fails k ts (first response_payload ts) h)
shown_reason (Some o) None k ts e h = absurd (unread_fails k ts (first response_payload ts) h)
shown_reason (Some (operation.Idle n)) (Some s) k ts e h = absurd (unread_fails k ts (first response_payload ts) h)
shown_reason (Some (operation.Other n)) (Some s) k ts e (inl h) = elim h [
  | inl q ↦ (s, refl, unjudged_reason s k (failure_off ts s e q.1) q.0)
  | inr q ↦ absurd q
]
shown_reason (Some (operation.Other n)) (Some s) k ts e (inr h) = absurd h
shown_reason (Some operation.Create) (Some s) k ts e h = (s, refl, judged_reason operation.Create s k ts h)
shown_reason (Some operation.Register) (Some s) k ts e h = (s, refl, judged_reason operation.Register s k ts h)
shown_reason (Some operation.Locate) (Some s) k ts e h = (s, refl, judged_reason operation.Locate s k ts h)
shown_reason (Some operation.Get) (Some s) k ts e h = (s, refl, judged_reason operation.Get s k ts h)
shown_reason (Some operation.GetAttributes) (Some s) k ts e h = (s, refl, judged_reason operation.GetAttributes s k ts h)
shown_reason (Some operation.Activate) (Some s) k ts e h = (s, refl, judged_reason operation.Activate s k ts h)
shown_reason (Some operation.Revoke) (Some s) k ts e h = (s, refl, judged_reason operation.Revoke s k ts h)
shown_reason (Some operation.Destroy) (Some s) k ts e h = (s, refl, judged_reason operation.Destroy s k ts h)

-- ---- an answer

answer_reasons : (a : Option AskOf) (t : Tree) (k : OutsideKind) → answer_told a k t ≢ [] → AnswerFault a t k
answer_reasons a t k h =
    let ts = children t in
    let shown = shown_in a ts in
    let of_payload : FailsSo k ts (first response_payload ts) shown → AnswerFault a t k = λ g.
    let w = shown_reason (own a (at as_enumeration operation_tag ts)) (status_in ts) k ts refl g in
    answer.in_payload w.0 (is_listed (at as_enumeration result_status ts) w.0 w.1) w.2 in
    elim (told_both k ts None (Some response_payload) (answer_demands ++ outcome_demands shown) (shown_demands shown (at as_structure response_payload ts)) h) [
      | inl g ↦ elim (any_split (IsBroken k ts) answer_demands (outcome_demands shown) g) [
        | inl x ↦ any_reason (AnswerFault a t) ts k answer_demands (answer_each a t) x
        | inr x ↦ of_payload (inl x)
      ]
      | inr g ↦ of_payload (inr g)
    ]

pub response_reasons : ResponseFieldsAreReasons
response_reasons t request zero k h =
    response_header_reasons t k (told_both k (children t) None (Some response_header_tag) (header_demand response_header_tag ∷ []) (response_header_demands (length (batch t))) h)
response_reasons t request (suc place) k h = by (slice_get (batch t) place) refl h
  where
    by : (o : Option Tree) → slice_get (batch t) place ≡ o → of_item (answer_told (slice_get request.items place) k) o ≢ []
        → EachFault (λ place. AnswerFault (slice_get request.items place)) (batch t) place k
    by None e h = absurd (h refl)
    by (Some x) e h = each_to (λ i. AnswerFault (slice_get request.items i)) (batch t) place k x e (answer_reasons (slice_get request.items place) x k h)
