-- What is told of an item of a request, and what is at fault with it.
use Rattle.std.proofs.Common.{◌≡◌, ◌≢◌, ◌⊎◌, ℕ, zero, suc, Bool, true, false, ◌&&◌, cond, is_none, length, List, [], ◌∷◌, ◌++◌, slice_get, Option, Some, None, refl, sym, ap, ◌∙◌, subst, inl, inr}
use Rattle.kmipa_ttlv.specs.Tree.{Tree, Trees, tag_of}
use Rattle.kmipa_attrs.specs.Fields.{first, at, inside, typed, field_of, as_structure, as_enumeration, as_text}
use Rattle.kmipa_attrs.specs.Readings.{IsWrong, NeededFault, Optional}
use Rattle.kmipa_attrs.specs.Tags.{operation_tag, request_message, request_header_tag, request_payload, unique_identifier}
use Rattle.kmipa_attrs.specs.declared.fields.Field.{Field}
use Rattle.kmipa_attrs.specs.declared.fields.Field.TheVariants.{Absent, Wrong, There}
use Rattle.kmipa_msgs.specs.declared.kind.OutsideKind.{OutsideKind}
use Rattle.kmipa_msgs.specs.declared.kind.OutsideKind.TheVariants.{Missing, Disagree, Unordered}
use Rattle.kmipa_msgs.specs.declared.operation.Operation.{Operation}
use Rattle.kmipa_msgs.specs.declared.operation.Operation.TheVariants as operation
use Rattle.kmipa_msgs.specs.Asks.{AskFault, AskedFault, ItemFault, SaysAsk, SaysAsked, TellsOperation, means_placeholder}
use Rattle.kmipa_msgs.specs.Asks.{AskFault as ask}
use Rattle.kmipa_msgs.specs.Asks.{ItemFault as item}
use Rattle.kmipa_msgs.specs.Headers.{batch}
use Rattle.kmipa_msgs.specs.Messages.{AskedOf, creates, registers, locates, gets, gets_attributes, activates, revokes, destroys, idles, does_other}
use Rattle.kmipa_msgs.specs.Outside.{EachFault}
use Rattle.kmipa_msgs.specs.Operations.{operation_of, is_judged}
use Rattle.kmipa_msgs.specs.Requests.{is_without_order}
use Rattle.kmipa_msgs.specs.Tables.{children}
use Rattle.kmipa_outside.specs.AgreementDemands.{agreement_demands}
use Rattle.kmipa_outside.specs.Demands.{Fails, wants}
use Rattle.kmipa_outside.specs.HeaderDemands.{request_header_demands}
use Rattle.kmipa_outside.specs.Laws.{AnyOf, IsBroken, RequestFieldsAreReasons, RequestReasonsHaveFields}
use Rattle.kmipa_outside.specs.Requests.{ask_demands, form_demands, header_demand, is_on_object, item_told, naming_demands, of_item, payload_demands, request_fields}
use Rattle.kmipa_outside.specs.Tables.{asked_demands}
use Rattle.kmipa_outside.specs.declared.demand.Demand.{Demand}
use Rattle.kmipa_outside.specs.declared.demand.Wanted.TheVariants as wanted
use Rattle.kmipa_outside.specs.declared.types.ItemType.TheVariants as type
use Rattle.kmipa_outside.proofs.FailLemmas.{Fail, decides_structure, decides_enumeration, wrong, fails_wrong, needed, fails_needed, fails_none}
use Rattle.kmipa_outside.proofs.AgreementLemmas.{agreement_reasons, of_disagree}
use Rattle.kmipa_outside.proofs.FindLemmas.{asked_demanded}
use Rattle.kmipa_outside.proofs.HeaderLemmas.{request_header_reasons, request_header_finds}
use Rattle.kmipa_outside.proofs.ReasonLemmas.{asked_reasons}
use Rattle.kmipa_outside.proofs.ToldLemmas.{any_left, any_reason, any_right, any_split, both_told, each_from, each_to, told_both}

-- one demand, if it is there
only_if : (b : Bool) (P : Demand → Type 0) (d : Demand) → AnyOf P (cond b (d ∷ []) []) → (b ≡ true) × P d
only_if true P d h = elim h [ inl p ↦ (refl, p) | inr q ↦ absurd q ]
only_if false P d h = absurd h

one_if : (b : Bool) (P : Demand → Type 0) (d : Demand) → b ≡ true → P d → AnyOf P (cond b (d ∷ []) [])
one_if true P d e p = inl p
one_if false P d e p = let h : false ≡ true = e in cc

and_true : (b c : Bool) → b ≡ true → c ≡ true → (b && c) ≡ true
and_true true c e f = f
and_true false c e f = let h : false ≡ true = e in cc

module _ (unordered : Bool) (t : Tree) (k : OutsideKind) where
  -- what fails of the item itself
  own_reasons : (f : Field ℕ) → at as_enumeration operation_tag (children t) ≡ f → AnyOf (IsBroken k (children t)) (ask_demands f) → ItemFault unordered t k
  own_reasons Absent e h = elim h [
    | inl p ↦ let P : OutsideKind → Type 0 = λ j. NeededFault (at as_enumeration operation_tag (children t)) Missing Missing j in
        item.in_ask (ask.in_operation (subst P p.0 (needed as_enumeration type.Enumeration decides_enumeration operation_tag (children t) Missing p.1)))
    | inr q ↦ absurd q
  ]
  own_reasons Wrong e h = elim h [
    | inl p ↦ let P : OutsideKind → Type 0 = λ j. NeededFault (at as_enumeration operation_tag (children t)) Missing Missing j in
        item.in_ask (ask.in_operation (subst P p.0 (needed as_enumeration type.Enumeration decides_enumeration operation_tag (children t) Missing p.1)))
    | inr q ↦ absurd q
  ]
  own_reasons (There n) e h =
      let g = only_if (is_judged (operation_of n)) (IsBroken k (children t)) _ h in
      let P : Field ℕ → Type 0 = λ f. TellsOperation f (operation_of n) in
      item.in_ask (ask.in_payload (operation_of n) (subst P (sym e) refl) g.0 (sym g.1.0) (wrong as_structure type.Structure decides_structure request_payload (children t) g.1.1))

  -- what fails of its payload; of `Disagree` where the item has no other fault
  payload_reasons : (k ≡ Unordered → ⊥) → (k ≡ Disagree → (j : OutsideKind) → ItemFault unordered t j → j ≡ Disagree) → (f : Field ℕ) → at as_enumeration operation_tag (children t) ≡ f
      → AnyOf (IsBroken k (inside request_payload (children t))) (payload_demands unordered f (inside request_payload (children t))) → ItemFault unordered t k
  payload_reasons other only Absent e h = absurd h
  payload_reasons other only Wrong e h = absurd h
  payload_reasons other only (There n) e h =
      let us = inside request_payload (children t) in
      let o = operation_of n in
      let P : Field ℕ → Type 0 = λ f. TellsOperation f o in
      let tells : TellsOperation (at as_enumeration operation_tag (children t)) o = subst P (sym e) refl in
      elim (any_split (IsBroken k us) (asked_demands o) (naming_demands unordered o ++ agreement_demands o us) h) [
        | inl g ↦ item.in_ask (ask.in_asked o tells (any_reason (AskedFault o us) us k (asked_demands o) (asked_reasons o us) g))
        | inr g ↦ elim (any_split (IsBroken k us) (naming_demands unordered o) (agreement_demands o us) g) [
          | inl m ↦ let w = only_if (unordered && is_on_object o) (IsBroken k us) _ m in absurd (other (sym w.1.0))
          | inr m ↦ agreement_reason o tells (of_disagree o us k m)
        ]
      ]
    where
      agreement_reason : (o : Operation) → TellsOperation (at as_enumeration operation_tag (children t)) o
          → (k ≡ Disagree) × AnyOf (λ (d : Demand). Fails d (inside request_payload (children t))) (agreement_demands o (inside request_payload (children t))) → ItemFault unordered t k
      agreement_reason o tells w =
          let F : OutsideKind → Type 0 = λ j. AskedFault o (inside request_payload (children t)) j in
          item.in_ask (ask.in_asked o tells (subst F (sym w.0) (agreement_reasons o (inside request_payload (children t)) (λ j f. only w.0 j (item.in_ask (ask.in_asked o tells f))) w.1)))

  -- and the other way
  own_finds : (f : Field ℕ) → NeededFault f Missing Missing k → (Missing ≡ k) × Fail (wanted.Typed type.Enumeration) operation_tag (children t) → AnyOf (IsBroken k (children t)) (ask_demands f)
  own_finds Absent w g = inl (g.0, g.1)
  own_finds Wrong w g = inl (g.0, g.1)
  own_finds (There n) w g = absurd w

  form_finds : (f : Field ℕ) (o : Operation) → TellsOperation f o → is_judged o ≡ true → (Missing ≡ k) × Fail (wanted.MaybeTyped type.Structure) request_payload (children t)
      → AnyOf (IsBroken k (children t)) (ask_demands f)
  form_finds Absent o tells judged g = absurd tells
  form_finds Wrong o tells judged g = absurd tells
  form_finds (There n) o tells judged g = one_if (is_judged (operation_of n)) (IsBroken k (children t)) _ (ap is_judged (sym tells) ∙ judged) (g.0, g.1)

  asked_finds : (f : Field ℕ) (o : Operation) → TellsOperation f o → AskedFault o (inside request_payload (children t)) k
      → AnyOf (IsBroken k (inside request_payload (children t))) (payload_demands unordered f (inside request_payload (children t)))
  asked_finds Absent o tells w = absurd tells
  asked_finds Wrong o tells w = absurd tells
  asked_finds (There n) o tells w =
      let us = inside request_payload (children t) in
      let p = operation_of n in
      let P : Operation → Type 0 = λ q. AskedFault q us k in
      elim (any_split (IsBroken k us) (asked_demands p) (agreement_demands p us) (asked_demanded p us k (subst P tells w))) [
        | inl g ↦ any_left (IsBroken k us) (asked_demands p) (naming_demands unordered p ++ agreement_demands p us) g
        | inr g ↦ any_right (IsBroken k us) (asked_demands p) (naming_demands unordered p ++ agreement_demands p us) (any_right (IsBroken k us) (naming_demands unordered p) (agreement_demands p us) g)
      ]

  naming_finds : (f : Field ℕ) (o : Operation) → TellsOperation f o → unordered ≡ true → is_on_object o ≡ true → (Unordered ≡ k) × Fail wanted.There unique_identifier (inside request_payload (children t))
      → AnyOf (IsBroken k (inside request_payload (children t))) (payload_demands unordered f (inside request_payload (children t)))
  naming_finds Absent o tells loose on g = absurd tells
  naming_finds Wrong o tells loose on g = absurd tells
  naming_finds (There n) o tells loose on g =
      let us = inside request_payload (children t) in
      let p = operation_of n in
      any_right (IsBroken k us) (asked_demands p) (naming_demands unordered p ++ agreement_demands p us)
      (any_left (IsBroken k us) (naming_demands unordered p) (agreement_demands p us)
      (one_if (unordered && is_on_object p) (IsBroken k us) _ (and_true unordered _ loose (ap is_on_object (sym tells) ∙ on)) (g.0, g.1)))

-- ---- the ID Placeholder

absent_id : (f : Field (List ℕ)) (id : Option (List ℕ)) → Optional f id → is_none id ≡ true → f ≡ Absent
absent_id f None s e = s
absent_id f (Some x) s e = let h : false ≡ true = e in cc

first_none : (o : Option Tree) → typed as_text o ≡ Absent → o ≡ None
first_none None e = refl
first_none (Some t) e = by (as_text t) e
  where
    by : (r : Option (List ℕ)) → field_of (Some r) ≡ Absent → Some t ≡ None
    by None e = cc
    by (Some x) e = cc

on_object : (o : Operation) (us : Trees) (a : AskedOf) → SaysAsked o us a → means_placeholder a ≡ true → (is_on_object o ≡ true) × (at as_text unique_identifier us ≡ Absent)
on_object operation.Get us (gets id) s e = (refl, absent_id _ id s e)
on_object operation.Get us _ s e = absurd s
on_object operation.GetAttributes us (gets_attributes g) s e = (refl, absent_id _ g.id s.id e)
on_object operation.GetAttributes us _ s e = absurd s
on_object operation.Activate us (activates id) s e = (refl, absent_id _ id s e)
on_object operation.Activate us _ s e = absurd s
on_object operation.Revoke us (revokes r) s e = (refl, absent_id _ r.id s.id e)
on_object operation.Revoke us _ s e = absurd s
on_object operation.Destroy us (destroys id) s e = (refl, absent_id _ id s e)
on_object operation.Destroy us _ s e = absurd s
on_object operation.Create us (creates a) s e = let h : false ≡ true = e in cc
on_object operation.Create us _ s e = absurd s
on_object operation.Register us (registers a) s e = let h : false ≡ true = e in cc
on_object operation.Register us _ s e = absurd s
on_object operation.Locate us (locates a) s e = let h : false ≡ true = e in cc
on_object operation.Locate us _ s e = absurd s
on_object (operation.Idle n) us a s e = let h : false ≡ true = sym (ap means_placeholder s) ∙ e in cc
on_object (operation.Other n) us a s e = let h : false ≡ true = sym (ap means_placeholder s) ∙ e in cc

-- ---- an item

item_reasons : (unordered : Bool) (t : Tree) (k : OutsideKind) → (k ≡ Unordered → ⊥) → (k ≡ Disagree → (j : OutsideKind) → ItemFault unordered t j → j ≡ Disagree) → item_told unordered k t ≢ []
    → ItemFault unordered t k
item_reasons unordered t k other only h =
    let f = at as_enumeration operation_tag (children t) in
    elim (told_both k (children t) None (Some request_payload) (ask_demands f) (payload_demands unordered f (inside request_payload (children t))) h) [
      | inl g ↦ own_reasons unordered t k f refl g
      | inr g ↦ payload_reasons unordered t k other only f refl g
    ]

item_finds : (unordered : Bool) (t : Tree) (k : OutsideKind) → ItemFault unordered t k → item_told unordered k t ≢ []
item_finds unordered t k w =
    let f = at as_enumeration operation_tag (children t) in
    both_told k (children t) None (Some request_payload) (ask_demands f) (payload_demands unordered f (inside request_payload (children t))) (elim w [
      | item.in_ask a ↦ elim a [
        | ask.in_operation x ↦ inl (own_finds unordered t k f x (fails_needed as_enumeration type.Enumeration decides_enumeration operation_tag (children t) Missing k x))
        | ask.in_payload o tells judged e x ↦ inl (form_finds unordered t k f o tells judged (sym e, fails_wrong as_structure type.Structure decides_structure request_payload (children t) x))
        | ask.in_asked o tells x ↦ inr (asked_finds unordered t k f o tells x)
      ]
      | item.in_order e loose a said means ↦
          let g = on_object said.operation (inside request_payload (children t)) a.asked said.asked means in
          inr (naming_finds unordered t k f said.operation said.is loose g.0 (sym e, fails_none unique_identifier (inside request_payload (children t)) (first_none _ g.1)))
    ])

-- ---- a request

pub request_reasons : RequestFieldsAreReasons
request_reasons t zero k other only h =
    request_header_reasons t k (told_both k (children t) None (Some request_header_tag) (header_demand request_header_tag ∷ []) (request_header_demands (length (batch t))) h)
request_reasons t (suc place) k other only h = by (slice_get (batch t) place) refl h
  where
    by : (o : Option Tree) → slice_get (batch t) place ≡ o → of_item (item_told (is_without_order t) k) o ≢ [] → EachFault (λ place. ItemFault (is_without_order t)) (batch t) place k
    by None e h = absurd (h refl)
    by (Some x) e h =
        each_to (λ i. ItemFault (is_without_order t)) (batch t) place k x e
        (item_reasons (is_without_order t) x k other (λ w j f. only w j (each_to (λ i. ItemFault (is_without_order t)) (batch t) place j x e f)) h)

pub request_finds : RequestReasonsHaveFields
request_finds t zero k own w e =
    both_told k (children t) None (Some request_header_tag) (header_demand request_header_tag ∷ []) (request_header_demands (length (batch t))) (request_header_finds t k own w) e
request_finds t (suc place) k own w e =
    let g = each_from (λ i. ItemFault (is_without_order t)) (batch t) place k w in
    item_finds (is_without_order t) g.0 k g.2 (sym (ap (of_item (item_told (is_without_order t) k)) g.1) ∙ e)
