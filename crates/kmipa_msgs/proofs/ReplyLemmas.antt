-- The items of responses are read.
use Rattle.std.proofs.Common.{◌≡◌, ◌<◌, ℕ, zero, suc, Bool, true, false, not, is_some, MatchOption, ◌==◌, List, length, map, Option, Some, None, Result, Ok, Err, refl, sym, ap, ◌∙◌, subst, inl, inr, arith}
use Rattle.std.proofs.lemmas.Bool.{ne_eqb}
use Rattle.std.specs.Option.{option_map}
use Rattle.std.specs.List.{slice_get}
use Rattle.std.specs.Slice.{IsItemAt}
use Rattle.std.proofs.lemmas.Option.{slice_get-map, slice_get_past, slice_get_read}
use denote.Bor.{Bor}
use Rattle.kmipa_ttlv.specs.Tree.{Tree, Trees, structure, scalar, none, more}
use Rattle.kmipa_ttlv.specs.ViewTree.{view_tree, view_trees}
use Rattle.kmipa_ttlv.specs.declared.view.View.{View}
use Rattle.kmipa_ttlv.specs.declared.view.Children.{Children}
use Rattle.kmipa_attrs.specs.Fields.{first, at, value_in, or_none, as_structure, as_enumeration, as_bytes}
use Rattle.kmipa_attrs.specs.Readings.{Reads, optional, both, map_ok}
use Rattle.kmipa_attrs.specs.Tags.{operation_tag, response_payload, result_reason, result_status, unique_batch_item_id}
use Rattle.kmipa_attrs.specs.declared.fields.Field.{Field}
use Rattle.kmipa_attrs.specs.declared.fields.Field.TheVariants.{Absent, Wrong, There}
use Rattle.kmipa_attrs.proofs.ReadingLemmas.{reads_both, reads_as, reads_then, reads_optional}
use Rattle.kmipa_msgs.specs.declared.kind.OutsideKind.{OutsideKind}
use Rattle.kmipa_msgs.specs.declared.kind.OutsideKind
use Rattle.kmipa_msgs.specs.declared.kind.OutsideKind.TheVariants.{Missing, Pending}
use Rattle.kmipa_msgs.specs.declared.operation.Operation.{Operation}
use Rattle.kmipa_msgs.specs.declared.operation.Operation.TheVariants.{Idle, Other}
use Rattle.kmipa_msgs.specs.declared.response.Status.{Status}
use Rattle.kmipa_msgs.specs.declared.response.Status.TheVariants.{Success, Failed, Undone}
use Rattle.kmipa_msgs.specs.Kinds.{kind_number}
use Rattle.kmipa_msgs.specs.Numbers.{status_of}
use Rattle.kmipa_msgs.specs.Messages.{AskOf, ask_of, PayloadOf, payload_of, AnswerOf}
use Rattle.kmipa_msgs.specs.declared.request.Ask.{Ask}
use Rattle.kmipa_msgs.specs.declared.response.Payload.{Payload}
use Rattle.kmipa_msgs.specs.Tables.{children, Listed, of_table}
use Rattle.kmipa_msgs.specs.Payloads.{SaysPayloadOf, PayloadOfFault, payload_in}
use Rattle.kmipa_msgs.specs.Replies.{own, or_empty, SaysRequired, RequiredFault, SaysMaybe, MaybeFault, filled, SaysJudged, JudgedFault, SaysUnjudged, UnjudgedFault, SaysShown, ShownFault, StatusFault, SaysAnswer, AnswerFault, status_in, required_in, maybe_in, judged_in, unjudged_in, shown_in, beside, outcome_in, answer_rows, answer_at, answer_in, is_bare, outcome_of}
use Rattle.kmipa_msgs.specs.Replies.StatusFault.{unread, pending, unknown}
use Rattle.kmipa_msgs.specs.Replies.AnswerFault.{in_operation, in_status, in_reason, in_payload}
use Rattle.kmipa_msgs.proofs.TableLemmas.{same_kind, one_listed, apart_needed}
use Rattle.kmipa_msgs.proofs.ViewLemmas.{seen, right_seen}
use Rattle.kmipa_msgs.proofs.PayloadLemmas.{reads_payload}

-- the status
other : (n m : ℕ) → m < 4 → 3 < n → (n == m) ≡ false
other n m lt above = ne_eqb n m (λ e. omega (arith, e))

past_table : (n : ℕ) → 3 < n → status_of n ≡ None
past_table n above =
    let a : (n == 0) ≡ false = other n 0 (omega arith) above in
    let b : (n == 1) ≡ false = other n 1 (omega arith) above in
    let c : (n == 3) ≡ false = other n 3 (omega arith) above in
    rw a (rw b (rw c refl))

past_status : (n : ℕ) → 3 < n → status_in (There n) ≡ Err Missing
past_status n above =
    let a : (n == 2) ≡ false = other n 2 (omega arith) above in
    rw a (ap (λ (o : Option Status). of_status o) (past_table n above))
  where
    of_status : Option Status → Result Status OutsideKind
    of_status o = of_table o Missing

not_in_table : (n : ℕ) → n < 4 → (n ≡ 2 → ⊥) → (k : OutsideKind) → StatusFault (There n) k → ⊥
not_in_table n lt not_two k w = elim w [
  | unread a ↦ a
  | pending e f ↦ not_two (let same : There n ≡ There 2 = f in cc)
  | unknown m e f above ↦ let same : There n ≡ There m = f in let h : n ≡ m = cc in omega arith
]

status_at : (n : ℕ) (s : Status) → status_of n ≡ Some s → n < 4 → (n ≡ 2 → ⊥) → Reads kind_number (Listed (There n) status_of) (StatusFault (There n)) (Ok s)
status_at n s e lt not_two = record {
  said = record { number = n; is = refl; listed = e };
  only = λ y h. one_listed n status_of s y e h;
  right = not_in_table n lt not_two;
}

reads_status : (f : Field ℕ) → Reads kind_number (Listed f status_of) (StatusFault f) (status_in f)
reads_status Absent = record {
  here = unread refl;
  least = λ j lt w. elim w [ unread a ↦ same_kind j Missing lt a | pending e f ↦ cc | unknown n e f above ↦ cc ];
}
reads_status Wrong = record {
  here = unread refl;
  least = λ j lt w. elim w [ unread a ↦ same_kind j Missing lt a | pending e f ↦ cc | unknown n e f above ↦ cc ];
}
reads_status (There zero) = status_at 0 Success refl (omega arith) (λ e. omega (arith, e))
reads_status (There (suc zero)) = status_at 1 Failed refl (omega arith) (λ e. omega (arith, e))
reads_status (There (suc (suc zero))) = record {
  here = pending refl refl;
  least = λ j lt w. elim w [
    | unread a ↦ a
    | pending e f ↦ same_kind j Pending lt e
    | unknown n e f above ↦ let same : There 2 ≡ There n = f in let h : 2 ≡ n = cc in omega arith
  ];
}
reads_status (There (suc (suc (suc zero)))) = status_at 3 Undone refl (omega arith) (λ e. omega (arith, e))
reads_status (There (suc (suc (suc (suc n))))) = let P : Result Status OutsideKind → Type 0 = Reads kind_number (Listed field status_of) (StatusFault field) in subst P (sym (past_status m (omega arith))) (record {
  here = unknown m refl refl (omega arith);
  least = λ j lt w. elim w [
    | unread a ↦ a
    | pending e f ↦ let same : There m ≡ There 2 = f in let h : m ≡ 2 = cc in omega arith
    | unknown o e f above ↦ same_kind j Missing lt e
  ];
})
  where
    m : ℕ
    m = suc (suc (suc (suc n)))

    field : Field ℕ
    field = There m

-- the payload that is shown
reads_some : (operation : Operation) (t : Tree) (Said : Option PayloadOf → Type 0) (Fault : OutsideKind → Type 0)
    → ((x : PayloadOf) → SaysPayloadOf operation t x → Said (Some x)) → ((y : Option PayloadOf) → Said y → (x : PayloadOf) × SaysPayloadOf operation t x × (y ≡ Some x))
    → ((k : OutsideKind) → PayloadOfFault operation t k → Fault k) → ((k : OutsideKind) → Fault k → PayloadOfFault operation t k)
    → Reads kind_number Said Fault (map_ok Some (payload_in operation t))
reads_some operation t Said Fault to from reported back = reads_as kind_number (SaysPayloadOf operation t) (PayloadOfFault operation t) Said Fault (λ p. Some p) (payload_in operation t) to from reported back (reads_payload operation t)

reads_required : (operation : Operation) (t : Option Tree) → Reads kind_number (SaysRequired operation t) (RequiredFault operation t) (required_in operation t)
reads_required operation None = record { here = refl; least = λ j lt w. same_kind j Missing lt w }
reads_required operation (Some t) = reads_some operation t (SaysRequired operation (Some t)) (RequiredFault operation (Some t)) (λ x s. s) from (λ k f. f) (λ k f. f)
  where
    from : (y : Option PayloadOf) → SaysRequired operation (Some t) y → (x : PayloadOf) × SaysPayloadOf operation t x × (y ≡ Some x)
    from None s = absurd s
    from (Some x) s = (x, s, refl)

reads_maybe : (operation : Operation) (t : Option Tree) → Reads kind_number (SaysMaybe operation t) (MaybeFault operation t) (maybe_in operation t)
reads_maybe operation None = record { said = tt; only = only; right = λ k w. w }
  where
    only : (y : Option PayloadOf) → SaysMaybe operation None y → y ≡ None
    only None s = refl
    only (Some x) s = absurd s
reads_maybe operation (Some t) = reads_some operation t (SaysMaybe operation (Some t)) (MaybeFault operation (Some t)) (λ x s. s) from (λ k f. f) (λ k f. f)
  where
    from : (y : Option PayloadOf) → SaysMaybe operation (Some t) y → (x : PayloadOf) × SaysPayloadOf operation t x × (y ≡ Some x)
    from None s = absurd s
    from (Some x) s = (x, s, refl)

reads_judged : (operation : Operation) (status : Status) (t : Option Tree) → Reads kind_number (SaysJudged operation status t) (JudgedFault operation status t) (judged_in operation status t)
reads_judged operation Success t = reads_required operation (or_empty operation t)
reads_judged operation Failed t = record { said = refl; only = λ y e. e; right = λ k w. w }
reads_judged operation Undone t = reads_maybe operation (filled t)

reads_unjudged : (status : Status) → Reads kind_number (SaysUnjudged status) (UnjudgedFault status) (unjudged_in status)
reads_unjudged Failed = record { said = refl; only = λ y e. e; right = λ k w. w }
reads_unjudged _ = record { here = refl; least = λ j lt w. same_kind j OutsideKind.TheVariants.Operation lt w }

reads_shown : (own : Option Operation) (status : Status) (t : Option Tree) → Reads kind_number (SaysShown own status t) (ShownFault own status t) (shown_in own status t)
reads_shown None status t = record { said = refl; only = λ y e. e; right = λ k w. w }
reads_shown (Some (Idle n)) status t = record { said = refl; only = λ y e. e; right = λ k w. w }
reads_shown (Some (Other n)) status t = reads_unjudged status
reads_shown (Some operation) status t = reads_judged operation status t

-- the status and what is shown
abbrev Beside : Option Operation → Status → Option Tree → Status × Option PayloadOf → Type 0
Beside own status t p = (p.0 ≡ status) × SaysShown own status t p.1

reads_beside : (own : Option Operation) (status : Status) (t : Option Tree) → Reads kind_number (Beside own status t) (ShownFault own status t) (beside status (shown_in own status t))
reads_beside own status t =
    reads_as kind_number (SaysShown own status t) (ShownFault own status t) (Beside own status t) (ShownFault own status t) (λ p. (status, p)) (shown_in own status t)
    (λ p s. (refl, s)) (λ y s. (y.1, s.1, ap (λ (z : Status). pair z y.1) s.0)) (λ k w. w) (λ k w. w) (reads_shown own status t)
  where
    pair : Status → Option PayloadOf → Status × Option PayloadOf
    pair z p = (z, p)

-- a status that is at fault isn't said
apart_status : (f : Field ℕ) (k : OutsideKind) (s : Status) → StatusFault f k → Listed f status_of s → ⊥
apart_status f k s w l = elim w [
  | unread a ↦ apart_needed f l.number Missing Missing k a l.is
  | pending e g ↦
      let same : There l.number ≡ There 2 = sym l.is ∙ g in
      let m : l.number ≡ 2 = cc in
      let h : Some s ≡ None = sym l.listed ∙ ap status_of m in
      cc
  | unknown n e g above ↦
      let same : There n ≡ There l.number = sym g ∙ l.is in
      let m : n ≡ l.number = cc in
      let h : Some s ≡ None = sym (ap status_of m ∙ l.listed) ∙ past_table n above in
      cc
]

pub reads_answer : (a : Option AskOf) (t : Tree) → Reads kind_number (SaysAnswer a t) (AnswerFault a t) (answer_in a t)
unfolding answer_in
reads_answer a t =
    let ts = children t in
    let name = at as_enumeration operation_tag ts in
    let reason = at as_enumeration result_reason ts in
    let status = at as_enumeration result_status ts in
    let shown = first response_payload ts in
    reads_as kind_number _ _ (SaysAnswer a t) (AnswerFault a t) (answer_at ts) (answer_rows a ts)
    (λ p s. record {
      operation = s.0.0;
      batch_id = refl;
      status = let P : Status → Type 0 = Listed status status_of in subst P (sym s.1.1.1.0) s.1.1.0;
      reason = s.0.1;
      payload = let P : Status → Type 0 = λ z. SaysShown (own a name) z shown p.1.1 in subst P (sym s.1.1.1.0) s.1.1.1.1;
    })
    (λ y s. (((y.operation, y.reason), (y.status, y.payload)), ((s.operation, s.reason), (y.status, (s.status, (refl, s.payload)))), ap (λ (b : Option (List ℕ)). whole y b) s.batch_id))
    (λ k w. elim w [
      | inl b ↦ elim b [ inl c ↦ in_operation c.0 c.1 | inr c ↦ in_reason c.0 c.1 ]
      | inr b ↦ elim b [ inl c ↦ in_status c | inr c ↦ in_payload c.0 c.1.0 c.1.1 ]
    ])
    (λ k w. elim w [
      | in_operation e c ↦ inl (inl (e, c))
      | in_status c ↦ inr (inl c)
      | in_reason e c ↦ inl (inr (e, c))
      | in_payload z l c ↦ inr (inr (z, (l, c)))
    ])
    (reads_both kind_number _ _ _ _ _ _ (reads_both kind_number _ _ _ _ _ _ (reads_optional kind_number Missing name) (reads_optional kind_number Missing reason))
    (reads_then kind_number (Listed status status_of) (StatusFault status) (λ z. Beside (own a name) z shown) (λ z. ShownFault (own a name) z shown)
    (λ z. beside z (shown_in (own a name) z shown)) (status_in status) (reads_status status) (λ z. reads_beside (own a name) z shown) (λ k x w s. apart_status status k x w s)))
  where
    whole : AnswerOf → Option (List ℕ) → AnswerOf
    whole y b = record { operation = y.operation; batch_id = b; status = y.status; reason = y.reason; payload = y.payload }

-- an item as the program has it: no structure, and one
whole : Option AskOf → Trees → Result AnswerOf OutsideKind
whole a ts = map_ok (answer_at ts) (answer_rows a ts)

pub no_answer : (a : Option AskOf) (t : Tree) → None ≡ as_structure t → Err Missing ≡ answer_in a t
unfolding answer_in whole first
no_answer a t e = ap (λ (o : Option Trees). whole a (or_none o)) e

abbrev pub answer_view : Option (List ℕ) → (Option ℕ × Option ℕ) × (Status × Option Payload) → AnswerOf
answer_view b p = record { operation = p.0.0; batch_id = b; status = p.1.0; reason = p.0.1; payload = option_map payload_of p.1.1 }

pub seen_answer : (a : Option AskOf) (t : Tree) (ts : Trees) (b : Option (List ℕ)) (plain : Result (Option ℕ × Option ℕ) OutsideKind) (outcome : Result (Status × Option Payload) OutsideKind) (rows : Result ((Option ℕ × Option ℕ) × (Status × Option Payload)) OutsideKind)
    → Some ts ≡ as_structure t → b ≡ value_in (at as_bytes unique_batch_item_id ts) → rows ≡ both kind_number plain outcome
    → plain ≡ both kind_number (optional (at as_enumeration operation_tag ts) Missing) (optional (at as_enumeration result_reason ts) Missing)
    → map_ok outcome_of outcome ≡ outcome_in (own a (at as_enumeration operation_tag ts)) ts
    → map_ok (answer_view b) rows ≡ answer_in a t
unfolding answer_in whole
seen_answer a t ts b plain outcome rows te be e p o =
    ap (λ (x : Option (List ℕ)). map_ok (answer_view x) rows) be
    ∙ seen (answer_at ts) (λ q. (q.0, outcome_of q.1)) rows (answer_rows a ts)
    (right_seen kind_number outcome_of plain outcome rows (both kind_number (optional (at as_enumeration operation_tag ts) Missing) (optional (at as_enumeration result_reason ts) Missing)) (outcome_in (own a (at as_enumeration operation_tag ts)) ts) e p o)
    ∙ ap (λ (u : Option Trees). whole a (or_none u)) te

-- a structure without children, and one with some
pub bare : (t : Tree) (ts : Trees) → Some ts ≡ as_structure t → ts ≡ none → is_bare t ≡ true
unfolding as_structure
bare (structure n none) ts e is = refl
bare (structure n (more u us)) ts e is = let h : Some ts ≡ Some (more u us) = e in cc
bare (scalar n s) ts e is = cc

pub filled_in : (t u : Tree) (ts us : Trees) → Some ts ≡ as_structure t → ts ≡ more u us → is_bare t ≡ false
unfolding as_structure
filled_in (structure n none) u ts us e is = let h : Some ts ≡ Some none = e in cc
filled_in (structure n (more w ws)) u ts us e is = refl
filled_in (scalar n s) u ts us e is = cc

pub empty_is_bare : (t : Tree) (left rest : Children) (next : Option View) (b : Bool) → Some (view_trees left) ≡ as_structure t
    → MatchOption next ((view_trees left ≡ none) × (view_trees rest ≡ none)) (λ v. view_trees left ≡ more (view_tree v) (view_trees rest)) → is_some next ≡ not b → b ≡ is_bare t
empty_is_bare t left rest None true e is h = sym (bare t (view_trees left) e is.0)
empty_is_bare t left rest (Some v) false e is h = sym (filled_in t (view_tree v) (view_trees left) (view_trees rest) e is)
empty_is_bare t left rest None false e is h = absurd cc
empty_is_bare t left rest (Some v) true e is h = absurd cc

pub not_bare : (t : Tree) → None ≡ as_structure t → is_bare t ≡ false
unfolding as_structure
not_bare (structure n us) e = cc
not_bare (scalar n s) e = refl

-- the request's item at a place
pub asked_at : (xs : List Ask) (i : ℕ) (r : Option (Bor Ask)) → IsItemAt xs i r → option_map (λ a. ask_of a.now) r ≡ slice_get (map ask_of xs) i
asked_at xs i None h = sym (slice_get-map ask_of xs i ∙ ap (option_map ask_of) (slice_get_past xs i h.3))
asked_at xs i (Some x) h = sym (slice_get-map ask_of xs i ∙ ap (option_map ask_of) (slice_get_read xs (length xs) i x.now refl h.3.0 h.1))
