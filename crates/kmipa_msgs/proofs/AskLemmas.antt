-- The items of requests are read.
use Rattle.std.proofs.Common.{◌≡◌, ◌<◌, ℕ, Bool, true, false, not, ◌&&◌, cond, List, Option, None, Result, Ok, Err, refl, ap, ◌∙◌, inl, inr, ◌⊎◌, arith}
use Rattle.kmipa_ttlv.specs.Tree.{Tree, Trees}
use Rattle.kmipa_attrs.specs.Fields.{first, at, inside, or_none, as_structure, as_enumeration}
use Rattle.kmipa_attrs.specs.Readings.{Reads, IsWrong, NeededFault, needed, both, map_ok, and_then, kept_if, passing}
use Rattle.kmipa_attrs.specs.Tags.{operation_tag, request_payload}
use Rattle.kmipa_attrs.specs.declared.fields.Field.{Field}
use Rattle.kmipa_attrs.specs.declared.fields.Field.TheVariants.{Absent, Wrong, There}
use Rattle.kmipa_attrs.proofs.ReadingLemmas.{reads_both, reads_as, reads_then}
use Rattle.kmipa_msgs.specs.declared.kind.OutsideKind.{OutsideKind}
use Rattle.kmipa_msgs.specs.declared.kind.OutsideKind
use Rattle.kmipa_msgs.specs.declared.kind.OutsideKind.TheVariants.{Missing, Unordered}
use Rattle.kmipa_msgs.specs.declared.operation.Operation.{Operation}
use Rattle.kmipa_msgs.specs.Kinds.{kind_number}
use Rattle.kmipa_msgs.specs.Operations.{operation_of, is_judged}
use Rattle.kmipa_msgs.specs.declared.request.Asked.{Asked}
use Rattle.kmipa_msgs.specs.Messages.{AskedOf, AskOf, asked_of}
use Rattle.kmipa_msgs.specs.Tables.{unless_wrong, children}
use Rattle.kmipa_msgs.specs.Asks.{TellsOperation, SaysAsked, AskedFault, SaysAsk, AskFault, asked_in, form_in, payload_asked, operation_in, ask_at, ask_in, means_placeholder, ItemFault, may_stand, item_in}
use Rattle.kmipa_msgs.specs.Asks.AskFault.{in_operation, in_payload, in_asked}
use Rattle.kmipa_msgs.specs.Asks.ItemFault.{in_ask, in_order}
use Rattle.kmipa_msgs.proofs.TableLemmas.{same_kind}
use Rattle.kmipa_msgs.proofs.RowLemmas.{is_row}
use Rattle.kmipa_msgs.proofs.ViewLemmas.{seen, right_seen}

reads_form : {A : Type 0} (b : Bool) (f : Field A) (k : OutsideKind) → Reads kind_number (λ (u : Unit {0}). Unit {0}) (λ j. (b ≡ true) × (j ≡ k) × IsWrong f) (cond b (unless_wrong f k) (Ok tt))
reads_form false f k = record { said = tt; only = λ y h. refl; right = λ j h. let e : false ≡ true = h.0 in cc }
reads_form true Absent k = record { said = tt; only = λ y h. refl; right = λ j h. h.2 }
reads_form true Wrong k = record { here = (refl, refl, tt); least = λ j lt h. same_kind j k lt h.1 }
reads_form true (There x) k = record { said = tt; only = λ y h. refl; right = λ j h. h.2 }

abbrev PayloadFault : Operation → Trees → OutsideKind → Type 0
PayloadFault operation ts k = ((is_judged operation ≡ true) × (k ≡ Missing) × IsWrong (at as_structure request_payload ts)) ⊎ AskedFault operation (inside request_payload ts) k

reads_payload_asked : (operation : Operation) (ts : Trees) → Reads kind_number (SaysAsked operation (inside request_payload ts)) (PayloadFault operation ts) (payload_asked operation ts)
reads_payload_asked operation ts =
    reads_as kind_number _ _ (SaysAsked operation (inside request_payload ts)) (PayloadFault operation ts) (λ p. p.1) (both kind_number (form_in operation (at as_structure request_payload ts)) (asked_in operation (inside request_payload ts)))
    (λ y s. s.1) (λ y t. ((tt, y), (tt, t), refl)) (λ k w. w) (λ k w. w)
    (reads_both kind_number _ _ _ _ _ _ (reads_form (is_judged operation) (at as_structure request_payload ts) Missing) ((is_row operation).reads_asked (inside request_payload ts)))

reads_operation : (f : Field ℕ) → Reads kind_number (TellsOperation f) (NeededFault f Missing Missing) (map_ok operation_of (needed f Missing Missing))
reads_operation Absent = record { here = refl; least = λ j lt h. same_kind j Missing lt h }
reads_operation Wrong = record { here = refl; least = λ j lt h. same_kind j Missing lt h }
reads_operation (There n) = record { said = refl; only = λ y h. h; right = λ j h. h }

apart_operation : (f : Field ℕ) (operation : Operation) (k : OutsideKind) → NeededFault f Missing Missing k → TellsOperation f operation → ⊥
apart_operation Absent operation k w s = s
apart_operation Wrong operation k w s = s
apart_operation (There n) operation k w s = w

pub reads_ask : (t : Tree) → Reads kind_number (SaysAsk t) (AskFault t) (ask_in t)
unfolding ask_in
reads_ask t =
    let ts = children t in
    let field = at as_enumeration operation_tag ts in
    reads_as kind_number _ _ (SaysAsk t) (AskFault t) (ask_at ts) (and_then (λ operation. payload_asked operation ts) (operation_in ts))
    (λ a s. record { operation = s.0; is = s.1.0; asked = s.1.1; batch_id = refl })
    (λ y s. (y.asked, (s.operation, (s.is, s.asked)), ap (λ (b : Option (List ℕ)). item b y.asked) s.batch_id))
    (λ k w. elim w [
      | inl a ↦ in_operation a
      | inr b ↦ elim b.1.1 [ inl c ↦ in_payload b.0 b.1.0 c.0 c.1 c.2 | inr c ↦ in_asked b.0 b.1.0 c ]
    ])
    (λ k w. elim w [
      | in_operation a ↦ inl a
      | in_payload o l j e a ↦ inr (o, (l, inl (j, e, a)))
      | in_asked o l a ↦ inr (o, (l, inr a))
    ])
    (reads_then kind_number (TellsOperation field) (λ k. NeededFault field Missing Missing k) (λ operation. SaysAsked operation (inside request_payload ts)) (λ operation. PayloadFault operation ts)
    (λ operation. payload_asked operation ts) (operation_in ts) (reads_operation field) (λ operation. reads_payload_asked operation ts)
    (λ k x w s. apart_operation field x k w s))
  where
    item : Option (List ℕ) → AskedOf → AskOf
    item b a = record { batch_id = b; asked = a }

-- no kind is above the last
last_kind : (k : OutsideKind) → 13 < kind_number k → ⊥
last_kind OutsideKind.TheVariants.NotAMessage lt = omega (arith, lt)
last_kind OutsideKind.TheVariants.Version lt = omega (arith, lt)
last_kind OutsideKind.TheVariants.Count lt = omega (arith, lt)
last_kind OutsideKind.TheVariants.Operation lt = omega (arith, lt)
last_kind OutsideKind.TheVariants.ObjectType lt = omega (arith, lt)
last_kind OutsideKind.TheVariants.IdentifierForm lt = omega (arith, lt)
last_kind OutsideKind.TheVariants.Wrapped lt = omega (arith, lt)
last_kind OutsideKind.TheVariants.Format lt = omega (arith, lt)
last_kind OutsideKind.TheVariants.Missing lt = omega (arith, lt)
last_kind OutsideKind.TheVariants.Attribute lt = omega (arith, lt)
last_kind OutsideKind.TheVariants.Pending lt = omega (arith, lt)
last_kind OutsideKind.TheVariants.Disagree lt = omega (arith, lt)
last_kind OutsideKind.TheVariants.Unordered lt = omega (arith, lt)

-- an item of a request
item_at : (unordered : Bool) (t : Tree) (r : Result AskOf OutsideKind) → Reads kind_number (SaysAsk t) (AskFault t) r
    → Reads kind_number (SaysAsk t) (ItemFault unordered t) (passing (may_stand unordered) Unordered r)
item_at unordered t (Err k) h = record {
  here = in_ask h.here;
  least = λ j lt w. elim w [
    | in_ask a ↦ h.least j lt a
    | in_order is loose ask says means ↦ (let n : kind_number j ≡ 13 = ap kind_number is in last_kind k (omega (arith, lt, n)))
  ];
}
item_at unordered t (Ok x) h = by unordered (means_placeholder x.asked) refl
  where
    by : (loose means : Bool) → means_placeholder x.asked ≡ means → Reads kind_number (SaysAsk t) (ItemFault loose t) (kept_if (not (loose && means)) x Unordered)
    by false means e = record {
      said = h.said;
      only = h.only;
      right = λ k w. elim w [ in_ask a ↦ h.right k a | in_order is loose ask says mean ↦ (let bad : ⊥ = cc in bad) ];
    }
    by true false e = record {
      said = h.said;
      only = h.only;
      right = λ k w. elim w [
        | in_ask a ↦ h.right k a
        | in_order is loose ask says mean ↦ (let same : ask ≡ x = h.only ask says in let f : means_placeholder ask.asked ≡ false = ap (λ (a : AskOf). means_placeholder a.asked) same ∙ e in let bad : ⊥ = cc in bad)
      ];
    }
    by true true e = record {
      here = in_order refl refl x h.said e;
      least = λ j lt w. elim w [ in_ask a ↦ h.right j a | in_order is loose ask says mean ↦ same_kind j Unordered lt is ];
    }

pub reads_item : (unordered : Bool) (t : Tree) → Reads kind_number (SaysAsk t) (ItemFault unordered t) (item_in unordered t)
reads_item unordered t = item_at unordered t (ask_in t) (reads_ask t)

-- what a payload asks for, as the program has it
abbrev pub asked_view : Unit {0} × Asked → AskedOf
asked_view p = asked_of p.1

pub seen_asked : (operation : Operation) (ts us : Trees) (shape : Result (Unit {0}) OutsideKind) (asked : Result Asked OutsideKind) (rows : Result (Unit {0} × Asked) OutsideKind)
    → rows ≡ both kind_number shape asked → shape ≡ form_in operation (at as_structure request_payload ts) → us ≡ inside request_payload ts → map_ok asked_of asked ≡ asked_in operation us
    → map_ok asked_view rows ≡ payload_asked operation ts
seen_asked operation ts us shape asked rows e s u g =
    let form = form_in operation (at as_structure request_payload ts) in
    seen (λ q. q.1) (λ q. (q.0, asked_of q.1)) rows (both kind_number form (asked_in operation (inside request_payload ts)))
    (right_seen kind_number asked_of shape asked rows form (asked_in operation (inside request_payload ts)) e s (g ∙ ap (asked_in operation) u))

-- an item as the program has it: no structure, no operation, and one
whole : Trees → Result AskOf OutsideKind
whole ts = map_ok (ask_at ts) (and_then (λ operation. payload_asked operation ts) (operation_in ts))

pub no_ask : (t : Tree) → None ≡ as_structure t → Err Missing ≡ ask_in t
unfolding ask_in whole first
no_ask t e = ap (λ (o : Option Trees). whole (or_none o)) e
