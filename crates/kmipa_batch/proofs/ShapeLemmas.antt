-- Shapes: their computing form, and answers of the same statuses.
use Rattle.std.proofs.Common.{◌≡◌, ◌≢◌, ◌≤◌, ◌<◌, ◌⊎◌, inl, inr, ℕ, ◌+◌, Bool, true, false, not, if◌then◌else◌, nat_lt, List, length, Option, Some, None, option_map, slice_get, get_or, map, IsTrue, refl, sym, ap, ◌∙◌, subst, arith, ltb-true}
use Rattle.std.proofs.lemmas.Bool.{ltb-false}
use Rattle.std.proofs.lemmas.Option.{slice_get_past, slice_get-get_or, slice_get_within, slice_get-map}
use Rattle.std.proofs.lemmas.List.{length-map}
use Rattle.kmipa_msgs.specs.declared.request.BatchOption.{BatchOption}
use Rattle.kmipa_msgs.specs.declared.request.BatchOption.TheVariants.{Continue, Stop, Undo}
use Rattle.kmipa_msgs.specs.declared.response.Status.{Status}
use Rattle.kmipa_msgs.specs.declared.response.Status.TheVariants.{Success, Failed, Undone}
use Rattle.kmipa_msgs.specs.declared.response.Answer.{Answer}
use Rattle.kmipa_msgs.specs.Messages.{RequestOf, AnswerOf, answer_of, ResponseOf}
use Rattle.kmipa_batch.specs.Shapes.{is_failed, IsFirstFailed, NoneFailed, AnswerShape, NoAnswerShape, HasShape, IsShapedAt, IsShapedBelow, IsShaped}
use Rattle.kmipa_batch.specs.Fits.{FailedAt, is_after, is_undone, is_success, fits_answer, fits_none, fits, undoes}

-- statuses
pub failed_is : (s : Status) → is_failed s ≡ true → s ≡ Failed
failed_is Success e = cc
failed_is Failed e = refl
failed_is Undone e = cc

pub not_failed : (s : Status) → is_failed s ≡ false → s ≢ Failed
not_failed s e h = let bad : true ≡ false = sym (ap is_failed h) ∙ e in cc

undone_is : (s : Status) → is_undone s ≡ true → s ≡ Undone
undone_is Success e = cc
undone_is Failed e = cc
undone_is Undone e = refl

not_undone : (s : Status) → is_undone s ≡ false → s ≢ Undone
not_undone s e h = let bad : true ≡ false = sym (ap is_undone h) ∙ e in cc

kept_is : (s : Status) → s ≢ Undone → is_undone s ≡ false
kept_is Success h = refl
kept_is Failed h = refl
kept_is Undone h = absurd (h refl)

success_is : (s : Status) → is_success s ≡ true → s ≡ Success
success_is Success e = refl
success_is Failed e = cc
success_is Undone e = cc

not_true : (b : Bool) → not b ≡ true → b ≡ false
not_true true e = cc
not_true false e = refl

-- tests of order
is_less : (a b : ℕ) → nat_lt a b ≡ true → a < b
is_less a b e = omega (arith, ltb-true a b e)

not_less : (a b : ℕ) → nat_lt a b ≡ false → b ≤ a
not_less a b e = omega (arith, ltb-false a b e)

pub less_or_not : (a b : ℕ) → ((a < b) × (nat_lt a b ≡ true)) ⊎ ((b ≤ a) × (nat_lt a b ≡ false))
less_or_not a b = elim (nat_lt a b) as (λ t. nat_lt a b ≡ t → ((a < b) × (nat_lt a b ≡ true)) ⊎ ((b ≤ a) × (nat_lt a b ≡ false))) [
  | true ↦ λ e. inl (is_less a b e, e)
  | false ↦ λ e. inr (not_less a b e, e)
] refl

-- there is one first failed answer
not_before : (answers : List AnswerOf) (p q : ℕ) → IsFirstFailed answers p → IsFirstFailed answers q → p < q → ⊥
not_before answers p q a b h = b.first p a.answer h a.there a.failed

pub same_first : (answers : List AnswerOf) (p q : ℕ) → IsFirstFailed answers p → IsFirstFailed answers q → p ≡ q
same_first answers p q a b = elim (less_or_not p q) [
  | inl x ↦ absurd (not_before answers p q a b x.0)
  | inr x ↦ (elim (less_or_not q p) [
    | inl y ↦ absurd (not_before answers q p b a y.0)
    | inr y ↦ (let u : q ≤ p = x.0 in let v : p ≤ q = y.0 in omega arith)
  ])
]

pub none_first : (answers : List AnswerOf) (p : ℕ) → NoneFailed answers → IsFirstFailed answers p → ⊥
none_first answers p n a = n p a.answer a.there a.failed

-- tests by cases
if_cases : (b x y v : Bool) → (if b then x else y) ≡ v → ((b ≡ true) × (x ≡ v)) ⊎ ((b ≡ false) × (y ≡ v))
if_cases true x y v e = inl (refl, e)
if_cases false x y v e = inr (refl, e)

not_false : (b : Bool) → not b ≡ false → b ≡ true
not_false true e = refl
not_false false e = cc

pub clash : false ≡ true → ⊥
clash e = cc

module _ (asks : ℕ) (answers : List AnswerOf) (place : ℕ) where
  -- an answer
  answer_shape : (option : BatchOption) (failed : Option ℕ) (a : AnswerOf) → FailedAt answers failed → place < asks → fits_answer option failed place a.status ≡ true → AnswerShape option asks answers place a
  answer_shape Continue failed a at h e = record {
    asked = h;
    ends = λ n f w. absurd (n refl);
    kept = λ n. not_undone a.status (not_true (is_undone a.status) e);
    undone = λ o f w b. cc;
    whole = λ o n. cc;
  }
  answer_shape Stop None a at h e = record {
    asked = h;
    ends = λ n f w. absurd (none_first answers f at w);
    kept = λ n. not_undone a.status (not_true (is_undone a.status) e);
    undone = λ o f w b. cc;
    whole = λ o n. cc;
  }
  answer_shape Stop (Some g) a at h e = elim (if_cases (nat_lt g place) false (not (is_undone a.status)) true e) [
    | inl x ↦ absurd (clash x.1)
    | inr x ↦ (record {
      asked = h;
      ends = λ n f w. let u : place ≤ g = not_less g place x.0 in let v : g ≡ f = same_first answers g f at w in omega arith;
      kept = λ n. not_undone a.status (not_true (is_undone a.status) x.1);
      undone = λ o f w b. cc;
      whole = λ o n. cc;
    })
  ]
  answer_shape Undo None a at h e = record {
    asked = h;
    ends = λ n f w. absurd (none_first answers f at w);
    kept = λ n. absurd (n refl);
    undone = λ o f w b. absurd (none_first answers f at w);
    whole = λ o n. success_is a.status e;
  }
  answer_shape Undo (Some g) a at h e = elim (if_cases (nat_lt place g) (is_undone a.status) (not (nat_lt g place)) true e) [
    | inl x ↦ (record {
      asked = h;
      ends = λ n f w. let u : place < g = is_less place g x.0 in let v : g ≡ f = same_first answers g f at w in omega arith;
      kept = λ n. absurd (n refl);
      undone = λ o f w b. undone_is a.status x.1;
      whole = λ o n. absurd (none_first answers g n at);
    })
    | inr x ↦ (
        let above : g ≤ place = not_less place g x.0 in
        let below : place ≤ g = not_less g place (not_true (nat_lt g place) x.1) in
        record {
          asked = h;
          ends = λ n f w. let v : g ≡ f = same_first answers g f at w in omega arith;
          kept = λ n. absurd (n refl);
          undone = λ o f w b. let v : g ≡ f = same_first answers g f at w in absurd (omega arith);
          whole = λ o n. absurd (none_first answers g n at);
        })
  ]

  answer_misfit : (option : BatchOption) (failed : Option ℕ) (a : AnswerOf) → FailedAt answers failed → fits_answer option failed place a.status ≡ false → AnswerShape option asks answers place a → ⊥
  answer_misfit Continue failed a at e r = r.kept (λ o. cc) (undone_is a.status (not_false (is_undone a.status) e))
  answer_misfit Stop None a at e r = r.kept (λ o. cc) (undone_is a.status (not_false (is_undone a.status) e))
  answer_misfit Stop (Some g) a at e r = elim (if_cases (nat_lt g place) false (not (is_undone a.status)) false e) [
    | inl x ↦ (let u : g < place = is_less g place x.0 in let v : place ≤ g = r.ends (λ o. cc) g at in omega arith)
    | inr x ↦ r.kept (λ o. cc) (undone_is a.status (not_false (is_undone a.status) x.1))
  ]
  answer_misfit Undo None a at e r = clash (sym e ∙ ap is_success (r.whole refl at))
  answer_misfit Undo (Some g) a at e r = elim (if_cases (nat_lt place g) (is_undone a.status) (not (nat_lt g place)) false e) [
    | inl x ↦ clash (sym x.1 ∙ ap is_undone (r.undone refl g at (is_less place g x.0)))
    | inr x ↦ (let u : g < place = is_less g place (not_false (nat_lt g place) x.1) in let v : place ≤ g = r.ends (λ o. cc) g at in omega arith)
  ]

  -- none
  behind_first : (failed : Option ℕ) → FailedAt answers failed → is_after failed place ≡ true → (f : ℕ) × IsFirstFailed answers f × (f < place)
  behind_first None at e = absurd (clash e)
  behind_first (Some g) at e = (g, at, is_less g place e)

  not_behind : (failed : Option ℕ) → FailedAt answers failed → is_after failed place ≡ false → (f : ℕ) → IsFirstFailed answers f → f < place → ⊥
  not_behind None at e f w h = none_first answers f at w
  not_behind (Some g) at e f w h = let u : place ≤ g = not_less g place e in let v : g ≡ f = same_first answers g f at w in omega arith

  none_shape : (option : BatchOption) (failed : Option ℕ) → FailedAt answers failed → fits_none option failed place ≡ true → NoAnswerShape option asks answers place
  none_shape Continue failed at e = absurd (clash e)
  none_shape Stop failed at e = inr ((λ o. cc), behind_first failed at e)
  none_shape Undo failed at e = inr ((λ o. cc), behind_first failed at e)

  none_misfit : (option : BatchOption) (failed : Option ℕ) → FailedAt answers failed → place < asks → fits_none option failed place ≡ false → NoAnswerShape option asks answers place → ⊥
  none_misfit Continue failed at h e r = elim r [ inl x ↦ (let u : asks ≤ place = x in omega arith) | inr x ↦ x.0 refl ]
  none_misfit Stop failed at h e r = elim r [ inl x ↦ (let u : asks ≤ place = x in omega arith) | inr x ↦ not_behind failed at e x.1.0 x.1.1 x.1.2 ]
  none_misfit Undo failed at h e r = elim r [ inl x ↦ (let u : asks ≤ place = x in omega arith) | inr x ↦ not_behind failed at e x.1.0 x.1.1 x.1.2 ]

  -- a place has its shape exactly where it fits
  pub shape_fits : (option : BatchOption) (failed : Option ℕ) (o : Option AnswerOf) → FailedAt answers failed
      → fits option failed place (nat_lt place asks) (option_map (λ (a : AnswerOf). a.status) o) ≡ true → HasShape option asks answers place o
  shape_fits option failed None at e = elim (less_or_not place asks) [
    | inl x ↦ none_shape option failed at (sym (ap (λ (b : Bool). fits option failed place b None) x.1) ∙ e)
    | inr x ↦ inl x.0
  ]
  shape_fits option failed (Some a) at e = elim (less_or_not place asks) [
    | inl x ↦ answer_shape option failed a at x.0 (sym (ap (λ (b : Bool). fits option failed place b (Some a.status)) x.1) ∙ e)
    | inr x ↦ absurd (clash (sym (ap (λ (b : Bool). fits option failed place b (Some a.status)) x.1) ∙ e))
  ]

  pub shape_misfits : (option : BatchOption) (failed : Option ℕ) (o : Option AnswerOf) → FailedAt answers failed
      → fits option failed place (nat_lt place asks) (option_map (λ (a : AnswerOf). a.status) o) ≡ false → HasShape option asks answers place o → ⊥
  shape_misfits option failed None at e r = elim (less_or_not place asks) [
    | inl x ↦ none_misfit option failed at x.0 (sym (ap (λ (b : Bool). fits option failed place b None) x.1) ∙ e) r
    | inr x ↦ clash (sym e ∙ ap (λ (b : Bool). fits option failed place b None) x.1)
  ]
  shape_misfits option failed (Some a) at e r = elim (less_or_not place asks) [
    | inl x ↦ answer_misfit option failed a at (sym (ap (λ (b : Bool). fits option failed place b (Some a.status)) x.1) ∙ e) r
    | inr x ↦ (let u : asks ≤ place = x.0 in let v : place < asks = r.asked in omega arith)
  ]

-- after all items and answers each place has its shape
pub shaped_all : (request : RequestOf) (response : ResponseOf) (count : ℕ) → length request.items ≤ count → length response.items ≤ count → IsShapedBelow request response count → IsShaped request response
shaped_all request response count asks answers below place = elim (less_or_not place count) [
  | inl x ↦ below place x.0
  | inr x ↦ (
      let past : length response.items ≤ place = (let u : count ≤ place = x.0 in omega arith) in
      let P : Option AnswerOf → Type 0 = λ o. HasShape request.option (length request.items) response.items place o in
      subst P (sym (slice_get_past response.items place past)) (inl (let u : count ≤ place = x.0 in omega arith)))
]

-- one place more
pub shaped_more : (request : RequestOf) (response : ResponseOf) (count : ℕ) → IsShapedBelow request response count → IsShapedAt request response count → IsShapedBelow request response (count + 1)
shaped_more request response count below here place h = elim (less_or_not place count) [
  | inl x ↦ below place x.0
  | inr x ↦ (
      let is : count ≡ place = (let u : count ≤ place = x.0 in omega arith) in
      let P : ℕ → Type 0 = λ k. IsShapedAt request response k in
      subst P is here)
]

-- a batch goes back where it is under Undo and one failed
pub goes_on_is : (option : BatchOption) (answers : List AnswerOf) (failed : Option ℕ) → FailedAt answers failed → undoes option failed ≡ false → option ≡ Undo → NoneFailed answers
goes_on_is Continue answers failed at e o = let bad : ⊥ = cc in absurd bad
goes_on_is Stop answers failed at e o = let bad : ⊥ = cc in absurd bad
goes_on_is Undo answers None at e o = at
goes_on_is Undo answers (Some f) at e o = absurd (clash (sym e))

pub goes_back_is : (option : BatchOption) (answers : List AnswerOf) (failed : Option ℕ) → FailedAt answers failed → undoes option failed ≡ true → (option ≡ Undo) × ((f : ℕ) × IsFirstFailed answers f)
goes_back_is Continue answers failed at e = absurd (clash e)
goes_back_is Stop answers failed at e = absurd (clash e)
goes_back_is Undo answers None at e = absurd (clash e)
goes_back_is Undo answers (Some f) at e = (refl, (f, at))

-- answers of the same statuses
pub record Alike (xs ys : List AnswerOf) : Type 0 where
  pub same : (place : ℕ) → option_map (λ (a : AnswerOf). a.status) (slice_get xs place) ≡ option_map (λ (a : AnswerOf). a.status) (slice_get ys place)

pub alike_sym : (xs ys : List AnswerOf) → Alike xs ys → Alike ys xs
alike_sym xs ys h = record { same = λ place. sym (h.same place) }

status_there : (o : Option AnswerOf) (y : AnswerOf) → option_map (λ (a : AnswerOf). a.status) o ≡ Some y.status → (x : AnswerOf) × (o ≡ Some x) × (x.status ≡ y.status)
status_there None y e = let bad : ⊥ = cc in absurd bad
status_there (Some x) y e = (x, refl, (let same : x.status ≡ y.status = cc in same))

alike_there : (xs ys : List AnswerOf) (place : ℕ) (y : AnswerOf) → Alike xs ys → slice_get ys place ≡ Some y → (x : AnswerOf) × (slice_get xs place ≡ Some x) × (x.status ≡ y.status)
alike_there xs ys place y h e = status_there (slice_get xs place) y (h.same place ∙ ap (option_map (λ (a : AnswerOf). a.status)) e)

pub none_alike : (xs ys : List AnswerOf) → Alike xs ys → NoneFailed xs → NoneFailed ys
none_alike xs ys h n place y e f = let x = alike_there xs ys place y h e in n place x.0 x.1 (x.2 ∙ f)

pub first_alike : (xs ys : List AnswerOf) (place : ℕ) → Alike xs ys → IsFirstFailed xs place → IsFirstFailed ys place
first_alike xs ys place h a =
    let y = alike_there ys xs place a.answer (alike_sym xs ys h) a.there in
    record {
      answer = y.0;
      there = y.1;
      failed = y.2 ∙ a.failed;
      first = λ earlier other lt e f. let x = alike_there xs ys earlier other h e in a.first earlier x.0 lt x.1 (x.2 ∙ f);
    }

has_shape_alike : (option : BatchOption) (asks : ℕ) (xs ys : List AnswerOf) (place : ℕ) (x y : Option AnswerOf) → Alike xs ys
    → option_map (λ (a : AnswerOf). a.status) x ≡ option_map (λ (a : AnswerOf). a.status) y → HasShape option asks xs place x → HasShape option asks ys place y
has_shape_alike option asks xs ys place None None h e r = elim r [ inl a ↦ inl a | inr a ↦ inr (a.0, (a.1.0, first_alike xs ys a.1.0 h a.1.1, a.1.2)) ]
has_shape_alike option asks xs ys place None (Some y) h e r = let bad : ⊥ = cc in absurd bad
has_shape_alike option asks xs ys place (Some x) None h e r = let bad : ⊥ = cc in absurd bad
has_shape_alike option asks xs ys place (Some x) (Some y) h e r =
    let same : x.status ≡ y.status = cc in
    let back = alike_sym xs ys h in
    record {
      asked = r.asked;
      ends = λ n f w. r.ends n f (first_alike ys xs f back w);
      kept = λ n u. r.kept n (same ∙ u);
      undone = λ o f w b. sym same ∙ r.undone o f (first_alike ys xs f back w) b;
      whole = λ o n. sym same ∙ r.whole o (none_alike ys xs back n);
    }

pub shape_alike : (option : BatchOption) (asks : ℕ) (xs ys : List AnswerOf) (place : ℕ) → Alike xs ys → HasShape option asks xs place (slice_get xs place) → HasShape option asks ys place (slice_get ys place)
shape_alike option asks xs ys place h r = has_shape_alike option asks xs ys place (slice_get xs place) (slice_get ys place) h (h.same place) r

-- none failed before a place
pub record NoneBelow (answers : List AnswerOf) (count : ℕ) : Type 0 where
  pub none : (earlier : ℕ) (other : AnswerOf) → earlier < count → slice_get answers earlier ≡ Some other → other.status ≢ Failed

pub none_at_start : (answers : List AnswerOf) → NoneBelow answers 0
none_at_start answers = record { none = λ earlier other h. absurd (omega arith) }

-- an answer of a list by its place
answer_there : (answers : List Answer) (place : ℕ) (d : Answer) → place < length answers → slice_get (map answer_of answers) place ≡ Some (answer_of (get_or answers place d))
answer_there answers place d h = slice_get-map answer_of answers place ∙ ap (option_map answer_of) (slice_get-get_or answers place d h)

pub none_more : (answers : List Answer) (place : ℕ) (d : Answer) → NoneBelow (map answer_of answers) place → place < length answers → (get_or answers place d).status ≢ Failed → NoneBelow (map answer_of answers) (place + 1)
none_more answers place d n h kept = record {
  none = λ earlier other lt e. elim (less_or_not earlier place) [
    | inl x ↦ n.none earlier other x.0 e
    | inr x ↦ (λ f.
        let at : place ≡ earlier = (let u : place ≤ earlier = x.0 in omega arith) in
        let two : Some (answer_of (get_or answers place d)) ≡ Some other = sym (answer_there answers place d h) ∙ ap (slice_get (map answer_of answers)) at ∙ e in
        let one : answer_of (get_or answers place d) ≡ other = cc in
        kept (ap (λ (y : AnswerOf). y.status) one ∙ f))
  ];
}

pub first_found : (answers : List Answer) (place : ℕ) (d : Answer) → NoneBelow (map answer_of answers) place → place < length answers → (get_or answers place d).status ≡ Failed → IsFirstFailed (map answer_of answers) place
first_found answers place d n h failed = record { answer = answer_of (get_or answers place d); there = answer_there answers place d h; failed = failed; first = n.none }

pub none_found : (answers : List Answer) (place : ℕ) → NoneBelow (map answer_of answers) place → length answers ≤ place → NoneFailed (map answer_of answers)
none_found answers place n h p other e =
    let within : p < length (map answer_of answers) = slice_get_within (map answer_of answers) p other e in
    n.none p other (omega (arith, length-map answers answer_of)) e

-- what is computed of a place is whether it has its shape
pub shape_reported : (request : RequestOf) (response : ResponseOf) (place : ℕ) (failed : Option ℕ) (status : Option Status) (reported : Bool) → FailedAt response.items failed
    → status ≡ option_map (λ (a : AnswerOf). a.status) (slice_get response.items place) → reported ≡ fits request.option failed place (nat_lt place (length request.items)) status
    → (IsTrue reported → IsShapedAt request response place) × (IsShapedAt request response place → IsTrue reported)
shape_reported request response place failed status true at is e =
    let asks : ℕ = length request.items in (
      λ h. shape_fits asks response.items place request.option failed (slice_get response.items place) at (sym (e ∙ ap (fits request.option failed place (nat_lt place asks)) is)),
      λ r. refl,
    )
shape_reported request response place failed status false at is e =
    let asks : ℕ = length request.items in (
      λ h. absurd (clash h),
      λ r. absurd (shape_misfits asks response.items place request.option failed (slice_get response.items place) at (sym (e ∙ ap (fits request.option failed place (nat_lt place asks)) is)) r),
    )
