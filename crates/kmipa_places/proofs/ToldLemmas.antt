-- Items that mean the ID Placeholder by an Enumeration, as they are told.
use Rattle.std.proofs.Common.{◌≡◌, ℕ, zero, suc, Bool, true, false, not, ◌&&◌, ◌||◌, ◌==◌, cond, nat_lt, filter_map, if◌then◌else◌, is_some, List, [], ◌∷◌, length, Option, Some, None, Result, Ok, Err, refl, sym, ap, ◌∙◌, arith, eqb-true, is_none, lt-ltb}
use Rattle.std.proofs.lemmas.Bool.{ne_eqb}
use Rattle.kmipa_ttlv.specs.Tree.{Tree, Trees, structure, scalar, none, more, tag_of}
use Rattle.kmipa_attrs.specs.Fields.{at, typed, every, field_of, first, in_field, inside, value_in, as_structure, as_enumeration, as_bytes, as_text}
use Rattle.kmipa_attrs.specs.Readings.{needed, optional, both, map_ok, and_then, kept_if, passing}
use Rattle.kmipa_attrs.specs.Tags.{attribute_reference, key_wrapping_specification, operation_tag, request_payload, revocation_reason, revocation_reason_code, unique_batch_item_id, unique_identifier}
use Rattle.kmipa_attrs.specs.declared.fields.Field.{Field}
use Rattle.kmipa_attrs.specs.declared.fields.Field.TheVariants.{Absent, Wrong, There}
use Rattle.kmipa_attrs.proofs.FieldLemmas.{first_every, first_in}
use Rattle.kmipa_msgs.specs.declared.kind.OutsideKind.{OutsideKind}
use Rattle.kmipa_msgs.specs.declared.kind.OutsideKind.TheVariants.{IdentifierForm, Wrapped, Missing, Unordered}
use Rattle.kmipa_msgs.specs.declared.operation.Operation.{Operation}
use Rattle.kmipa_msgs.specs.declared.operation.Operation.TheVariants.{Create, Register, Locate, Get, GetAttributes, Activate, Revoke, Destroy, Idle, Other}
use Rattle.kmipa_msgs.specs.Kinds.{kind_number}
use Rattle.kmipa_msgs.specs.Operations.{is_on_object, operation_of, is_judged}
use Rattle.kmipa_msgs.specs.Messages.{AskedOf, gets, gets_attributes, GetAttributesOf, activates, revokes, destroys, AskOf}
use Rattle.kmipa_msgs.specs.Tables.{unless_there}
use Rattle.kmipa_msgs.specs.Asks.{asked_in, ask_at, ask_in, form_in, item_in, may_stand, means_placeholder, payload_asked}
use Rattle.kmipa_msgs.specs.Gets.{get_in}
use Rattle.kmipa_msgs.specs.GetsAttributes.{references, as_reference, is_other, some_other, has_others, get_attributes_at, get_attributes_in}
use Rattle.kmipa_msgs.specs.Identifiers.{identifier_in}
use Rattle.kmipa_msgs.specs.Revokes.{revoke_at, revoke_in}
use Rattle.kmipa_places.specs.Told.{asks_on_object, is_some_placeholder, behind_identifier, without_identifier, told_in, told_fields, told}
use Rattle.kmipa_msgs.specs.Beside.{asked_beside}
use Rattle.kmipa_places.specs.Readings.{if_on_object, told_by, told_operation, item_beside}

-- ---- where the ID Placeholder isn't meant so

in_same : (t : Tree) → is_some_placeholder (first unique_identifier (in_field (field_of (Some (as_structure t))))) ≡ false → told_in t ≡ t
unfolding as_structure
in_same (structure n us) h = rw h refl
in_same (scalar n s) h = refl

fields_same : (ts : Trees) → is_some_placeholder (first unique_identifier (inside request_payload ts)) ≡ false → told_fields ts ≡ ts
unfolding first
fields_same none h = refl
fields_same (more t ts) h = by (tag_of t == request_payload) (fields_same ts) h
  where
    by : (b : Bool) → (is_some_placeholder (first unique_identifier (inside request_payload ts)) ≡ false → told_fields ts ≡ ts)
        → is_some_placeholder (first unique_identifier (in_field (typed as_structure (cond b (Some t) (first request_payload ts))))) ≡ false
        → (if b then more (told_in t) ts else more t (told_fields ts)) ≡ more t ts
    by true ih g = ap (λ (u : Tree). more u ts) (in_same t g)
    by false ih g = ap (more t) (ih g)

if_none : (operation : Operation) (ts payload : Trees) → payload ≡ inside request_payload ts → if_on_object operation payload ≡ None
    → (if is_on_object operation then told_fields ts else ts) ≡ ts
if_none operation ts payload is e = by (is_on_object operation) (is_some_placeholder (first unique_identifier payload)) refl e
  where
    by : (b c : Bool) → is_some_placeholder (first unique_identifier payload) ≡ c → (if b && c then Some operation else None) ≡ None → (if b then told_fields ts else ts) ≡ ts
    by false c ce g = refl
    by true false ce g = fields_same ts (sym (ap (λ (us : Trees). is_some_placeholder (first unique_identifier us)) is) ∙ ce)
    by true true ce g = cc

by_none : (f : Field ℕ) (ts payload : Trees) → payload ≡ inside request_payload ts → told_by f payload ≡ None
    → (if asks_on_object f then told_fields ts else ts) ≡ ts
by_none Absent ts payload is e = refl
by_none Wrong ts payload is e = refl
by_none (There n) ts payload is e = if_none (operation_of n) ts payload is e

pub as_it_is : (t : Tree) → told_operation t ≡ None → told t ≡ t
unfolding as_structure
as_it_is (structure n ts) e = ap (structure n) (by_none (at as_enumeration operation_tag ts) ts (inside request_payload ts) refl e)
as_it_is (scalar n s) e = refl

-- ---- where it is meant so: the other fields of the item

tag_told : (t : Tree) → tag_of (told_in t) ≡ tag_of t
tag_told (structure n us) = refl
tag_told (scalar n s) = refl

passed_over : (n : ℕ) (t : Tree) (ts : Trees) → (tag_of t ≡ n → ⊥) → first n (more t ts) ≡ first n ts
unfolding first
passed_over n t ts ne = ap (λ (b : Bool). cond b (Some t) (first n ts)) (ne_eqb (tag_of t) n ne)

kept : (n : ℕ) (t : Tree) (ts us : Trees) → first n ts ≡ first n us → first n (more t ts) ≡ first n (more t us)
unfolding first
kept n t ts us e = ap (λ (o : Option Tree). cond (tag_of t == n) (Some t) o) e

pub first_told : (n : ℕ) (ts : Trees) → (n ≡ request_payload → ⊥) → first n (told_fields ts) ≡ first n ts
first_told n none ne = refl
first_told n (more t ts) ne = by (tag_of t == request_payload) refl (first_told n ts ne)
  where
    by : (b : Bool) → (tag_of t == request_payload) ≡ b → first n (told_fields ts) ≡ first n ts → first n (if b then more (told_in t) ts else more t (told_fields ts)) ≡ first n (more t ts)
    by true e ih =
        let is : tag_of t ≡ request_payload = eqb-true (tag_of t) request_payload e in
        passed_over n (told_in t) ts (λ s. ne (sym s ∙ tag_told t ∙ is)) ∙ sym (passed_over n t ts (λ s. ne (sym s ∙ is)))
    by false e ih = kept n t (told_fields ts) ts ih

-- ---- its payload

in_there : (t : Tree) → is_some_placeholder (first unique_identifier (in_field (field_of (Some (as_structure t))))) ≡ true
    → field_of (Some (as_structure (told_in t))) ≡ There (without_identifier (in_field (field_of (Some (as_structure t)))))
unfolding as_structure first
in_there (structure n us) h = rw h refl
in_there (scalar n s) h = cc

payload_told : (ts : Trees) → is_some_placeholder (first unique_identifier (inside request_payload ts)) ≡ true
    → at as_structure request_payload (told_fields ts) ≡ There (without_identifier (inside request_payload ts))
unfolding first
payload_told none h = cc
payload_told (more t ts) h = by (tag_of t == request_payload) refl (payload_told ts) h
  where
    by : (b : Bool) → (tag_of t == request_payload) ≡ b
        → (is_some_placeholder (first unique_identifier (inside request_payload ts)) ≡ true → at as_structure request_payload (told_fields ts) ≡ There (without_identifier (inside request_payload ts)))
        → is_some_placeholder (first unique_identifier (in_field (typed as_structure (cond b (Some t) (first request_payload ts))))) ≡ true
        → at as_structure request_payload (if b then more (told_in t) ts else more t (told_fields ts)) ≡ There (without_identifier (in_field (typed as_structure (cond b (Some t) (first request_payload ts)))))
    by true e ih g =
        ap (λ (n : ℕ). typed as_structure (cond (n == request_payload) (Some (told_in t)) (first request_payload ts))) (tag_told t)
        ∙ ap (λ (b : Bool). typed as_structure (cond b (Some (told_in t)) (first request_payload ts))) e
        ∙ in_there t g
    by false e ih g = ap (λ (b : Bool). typed as_structure (cond b (Some t) (first request_payload (told_fields ts)))) e ∙ ih g

-- ---- what its payload has beside the identifier

every_behind : (n : ℕ) (us : Trees) → (n ≡ unique_identifier → ⊥) → (n ≡ 0 → ⊥) → every n (behind_identifier us) ≡ every n us
unfolding every
every_behind n none ne nz = refl
every_behind n (more t us) ne nz = by (tag_of t == unique_identifier) refl (every_behind n us ne nz)
  where
    by : (b : Bool) → (tag_of t == unique_identifier) ≡ b → every n (behind_identifier us) ≡ every n us
        → every n (more (if b then structure 0 none else t) (behind_identifier us)) ≡ every n (more t us)
    by true e ih =
        let is : tag_of t ≡ unique_identifier = eqb-true (tag_of t) unique_identifier e in
        ap (λ (b : Bool). cond b (structure 0 none ∷ every n (behind_identifier us)) (every n (behind_identifier us))) (ne_eqb 0 n (λ s. nz (sym s)))
        ∙ ih
        ∙ sym (ap (λ (b : Bool). cond b (t ∷ every n us) (every n us)) (ne_eqb (tag_of t) n (λ s. ne (sym s ∙ is))))
    by false e ih = ap (λ (vs : List Tree). cond (tag_of t == n) (t ∷ vs) vs) ih

none_behind : (us : Trees) → every unique_identifier (behind_identifier us) ≡ []
unfolding every
none_behind none = refl
none_behind (more t us) = by (tag_of t == unique_identifier) refl (none_behind us)
  where
    by : (b : Bool) → (tag_of t == unique_identifier) ≡ b → every unique_identifier (behind_identifier us) ≡ [] → every unique_identifier (more (if b then structure 0 none else t) (behind_identifier us)) ≡ []
    by true e ih = ih
    by false e ih = ap (λ (b : Bool). cond b (t ∷ every unique_identifier (behind_identifier us)) (every unique_identifier (behind_identifier us))) e ∙ ih

every_without : (n : ℕ) (us : Trees) → (n ≡ unique_identifier → ⊥) → (n ≡ 0 → ⊥) → every n (without_identifier us) ≡ every n us
unfolding every
every_without n none ne nz = refl
every_without n (more t us) ne nz = by (tag_of t == unique_identifier) refl (every_without n us ne nz)
  where
    by : (b : Bool) → (tag_of t == unique_identifier) ≡ b → every n (without_identifier us) ≡ every n us
        → every n (if b then behind_identifier us else more t (without_identifier us)) ≡ every n (more t us)
    by true e ih =
        let is : tag_of t ≡ unique_identifier = eqb-true (tag_of t) unique_identifier e in
        every_behind n us ne nz ∙ sym (ap (λ (b : Bool). cond b (t ∷ every n us) (every n us)) (ne_eqb (tag_of t) n (λ s. ne (sym s ∙ is))))
    by false e ih = ap (λ (vs : List Tree). cond (tag_of t == n) (t ∷ vs) vs) ih

none_without : (us : Trees) → every unique_identifier (without_identifier us) ≡ []
unfolding every
none_without none = refl
none_without (more t us) = by (tag_of t == unique_identifier) refl (none_without us)
  where
    by : (b : Bool) → (tag_of t == unique_identifier) ≡ b → every unique_identifier (without_identifier us) ≡ [] → every unique_identifier (if b then behind_identifier us else more t (without_identifier us)) ≡ []
    by true e ih = none_behind us
    by false e ih = ap (λ (b : Bool). cond b (t ∷ every unique_identifier (without_identifier us)) (every unique_identifier (without_identifier us))) e ∙ ih

first_without : (n : ℕ) (us : Trees) → (n ≡ unique_identifier → ⊥) → (n ≡ 0 → ⊥) → first n (without_identifier us) ≡ first n us
first_without n us ne nz = first_every n (without_identifier us) ∙ ap first_in (every_without n us ne nz) ∙ sym (first_every n us)

none_first : (us : Trees) → first unique_identifier (without_identifier us) ≡ None
none_first us = first_every unique_identifier (without_identifier us) ∙ ap first_in (none_without us)

-- other items
or_true : (b c : Bool) → c ≡ true → true ≡ (b || c)
or_true true c e = refl
or_true false c e = sym e

some_more : (n : ℕ) → nat_lt 0 (suc n) ≡ true
some_more n = lt-ltb 0 (suc n) (omega arith)

one_more : (n : ℕ) → nat_lt 0 n ≡ nat_lt 1 (suc n)
one_more zero = refl
one_more (suc n) = some_more n ∙ sym (lt-ltb 1 (suc (suc n)) (omega arith))

or_assoc : (a b c : Bool) → (a || (b || c)) ≡ ((a || b) || c)
or_assoc true b c = refl
or_assoc false b c = refl

abbrev Many : ℕ → Trees → Bool
Many n us = nat_lt n (length (every unique_identifier us))

other_behind : (us : Trees) → some_other (behind_identifier us) ≡ (some_other us || Many 0 us)
unfolding some_other every
other_behind none = refl
other_behind (more t us) = by (tag_of t == unique_identifier) refl (other_behind us)
  where
    others : some_other (behind_identifier us) ≡ (some_other us || Many 0 us) → (tag_of t == unique_identifier) ≡ false
        → (is_other t || some_other (behind_identifier us)) ≡ ((is_other t || some_other us) || Many 0 (more t us))
    others ih e =
        ap (λ (b : Bool). is_other t || b) ih ∙ or_assoc (is_other t) (some_other us) (Many 0 us)
        ∙ ap (λ (b : Bool). (is_other t || some_other us) || nat_lt 0 (length (cond b (t ∷ every unique_identifier us) (every unique_identifier us)))) (sym e)

    by : (b : Bool) → (tag_of t == unique_identifier) ≡ b → some_other (behind_identifier us) ≡ (some_other us || Many 0 us)
        → some_other (more (if b then structure 0 none else t) (behind_identifier us)) ≡ ((is_other t || some_other us) || Many 0 (more t us))
    by true e ih =
        or_true (is_other t || some_other us) (nat_lt 0 (suc (length (every unique_identifier us)))) (some_more (length (every unique_identifier us)))
        ∙ ap (λ (b : Bool). (is_other t || some_other us) || nat_lt 0 (length (cond b (t ∷ every unique_identifier us) (every unique_identifier us)))) (sym e)
    by false e ih = others ih e

other_without : (us : Trees) → some_other (without_identifier us) ≡ (some_other us || Many 1 us)
unfolding some_other every
other_without none = refl
other_without (more t us) = by (tag_of t == unique_identifier) refl (other_without us)
  where
    known : (tag_of t == unique_identifier) ≡ true → (some_other us || Many 0 us) ≡ ((is_other t || some_other us) || Many 1 (more t us))
    known e =
        ap (λ (b : Bool). some_other us || b) (one_more (length (every unique_identifier us)))
        ∙ ap (λ (b : Bool). ((not b && is_other t) || some_other us) || nat_lt 1 (length (cond b (t ∷ every unique_identifier us) (every unique_identifier us)))) (sym e)
        ∙ ap (λ (b : Bool). (b || some_other us) || Many 1 (more t us)) (twice t)
      where
        twice : (u : Tree) → (not (tag_of u == unique_identifier) && is_other u) ≡ is_other u
        twice u = again (not (tag_of u == unique_identifier)) (is_none (as_reference u))
          where
            again : (b c : Bool) → (b && (b && c)) ≡ (b && c)
            again true c = refl
            again false c = refl

    by : (b : Bool) → (tag_of t == unique_identifier) ≡ b → some_other (without_identifier us) ≡ (some_other us || Many 1 us)
        → some_other (if b then behind_identifier us else more t (without_identifier us)) ≡ ((is_other t || some_other us) || Many 1 (more t us))
    by true e ih = other_behind us ∙ known e
    by false e ih =
        ap (λ (b : Bool). is_other t || b) ih ∙ or_assoc (is_other t) (some_other us) (Many 1 us)
        ∙ ap (λ (b : Bool). (is_other t || some_other us) || nat_lt 1 (length (cond b (t ∷ every unique_identifier us) (every unique_identifier us)))) (sym e)

or_false : (b : Bool) → (b || false) ≡ b
or_false true = refl
or_false false = refl

others_beside : (us : Trees) → has_others (without_identifier us) ≡ has_others us
others_beside us =
    ap (λ (vs : List Tree). some_other (without_identifier us) || nat_lt 1 (length vs)) (none_without us)
    ∙ or_false (some_other (without_identifier us)) ∙ other_without us

-- ---- what it asks for

get_rows : Option Tree → Option Tree → Result AskedOf OutsideKind
get_rows id wrapping = map_ok gets (map_ok (λ p. p.1) (both kind_number (unless_there wrapping Wrapped) (optional (typed as_text id) IdentifierForm)))

get_plain : (o : Option Tree) → get_rows None o ≡ map_ok (λ u. gets None) (unless_there o Wrapped)
unfolding get_rows
get_plain None = refl
get_plain (Some t) = refl

get_beside : (us : Trees) → map_ok gets (get_in (without_identifier us)) ≡ asked_beside Get us
unfolding get_in get_rows
get_beside us =
    ap (λ (o : Option Tree). get_rows o (first key_wrapping_specification (without_identifier us))) (none_first us)
    ∙ ap (get_rows None) (first_without key_wrapping_specification us (λ e. omega (arith, e)) (λ e. omega (arith, e)))
    ∙ get_plain (first key_wrapping_specification us)

attributes_at : List ℕ → Bool → Bool → GetAttributesOf
attributes_at tags selective others = record { id = None; references = tags; is_selective = selective; has_others = others }

get_attributes_beside : (us : Trees) → map_ok gets_attributes (get_attributes_in (without_identifier us)) ≡ asked_beside GetAttributes us
unfolding get_attributes_in references attributes_at
get_attributes_beside us =
    let vs = without_identifier us in
    ap (λ (o : Option Tree). map_ok gets_attributes (map_ok (get_attributes_at vs) (optional (typed as_text o) IdentifierForm))) (none_first us)
    ∙ (λ i. asked (attributes_at (filter_map as_enumeration (every_without attribute_reference us (λ e. omega (arith, e)) (λ e. omega (arith, e)) i)) (is_some (first_without attribute_reference us (λ e. omega (arith, e)) (λ e. omega (arith, e)) i)) (others_beside us i)))
  where
    asked : GetAttributesOf → Result AskedOf OutsideKind
    asked g = Ok (gets_attributes g)

id_beside : (us : Trees) → identifier_in (without_identifier us) ≡ Ok None
id_beside us = ap (λ (o : Option Tree). optional (typed as_text o) IdentifierForm) (none_first us)

revoke_rows_in : Option Tree → Option Tree → Result AskedOf OutsideKind
revoke_rows_in id reason =
    map_ok revokes (map_ok revoke_at (both kind_number (needed (at as_enumeration revocation_reason_code (in_field (typed as_structure reason))) Missing Missing) (optional (typed as_text id) IdentifierForm)))

revoke_plain : (f : Field ℕ) → map_ok revokes (map_ok revoke_at (both kind_number (needed f Missing Missing) (Ok None))) ≡ map_ok (λ n. revokes (record { id = None; code = n })) (needed f Missing Missing)
revoke_plain Absent = refl
revoke_plain Wrong = refl
revoke_plain (There n) = refl

revoke_beside : (us : Trees) → map_ok revokes (revoke_in (without_identifier us)) ≡ asked_beside Revoke us
unfolding revoke_in revoke_rows_in
revoke_beside us =
    ap (λ (o : Option Tree). revoke_rows_in o (first revocation_reason (without_identifier us))) (none_first us)
    ∙ ap (revoke_rows_in None) (first_without revocation_reason us (λ e. omega (arith, e)) (λ e. omega (arith, e)))
    ∙ revoke_plain (at as_enumeration revocation_reason_code (inside revocation_reason us))

asks_beside : (operation : Operation) (us : Trees) → is_on_object operation ≡ true → asked_in operation (without_identifier us) ≡ asked_beside operation us
asks_beside Get us e = get_beside us
asks_beside GetAttributes us e = get_attributes_beside us
asks_beside Activate us e = ap (λ (r : Result (Option (List ℕ)) OutsideKind). map_ok activates r) (id_beside us)
asks_beside Revoke us e = revoke_beside us
asks_beside Destroy us e = ap (λ (r : Result (Option (List ℕ)) OutsideKind). map_ok destroys r) (id_beside us)
asks_beside Create us e = cc
asks_beside Register us e = cc
asks_beside Locate us e = cc
asks_beside (Idle n) us e = cc
asks_beside (Other n) us e = cc

-- ---- the item

abbrev tt_ok : Result (Unit {0}) OutsideKind
tt_ok = Ok tt

judged_on_object : (operation : Operation) → is_on_object operation ≡ true → is_judged operation ≡ true
judged_on_object (Idle n) e = cc
judged_on_object (Other n) e = cc
judged_on_object _ e = refl

right_of : (r : Result AskedOf OutsideKind) → map_ok (λ p. p.1) (both kind_number tt_ok r) ≡ r
right_of (Ok x) = refl
right_of (Err k) = refl

payload_beside : (operation : Operation) (ts : Trees) → is_on_object operation ≡ true → is_some_placeholder (first unique_identifier (inside request_payload ts)) ≡ true
    → payload_asked operation (told_fields ts) ≡ asked_beside operation (inside request_payload ts)
payload_beside operation ts on means =
    let us = inside request_payload ts in
    let there = payload_told ts means in
    ap (λ (f : Field Trees). of_field f) there
    ∙ ap (λ (b : Bool). map_ok (λ p. p.1) (both kind_number (cond b tt_ok tt_ok) (asked_in operation (without_identifier us)))) (judged_on_object operation on)
    ∙ right_of (asked_in operation (without_identifier us))
    ∙ asks_beside operation us on
  where
    of_field : Field Trees → Result AskedOf OutsideKind
    of_field f = map_ok (λ p. p.1) (both kind_number (form_in operation f) (asked_in operation (in_field f)))

item_at : Trees → Field ℕ → Field (List ℕ) → Result AskOf OutsideKind
item_at ts name batch = map_ok (ask_with (value_in batch)) (and_then (λ operation. payload_asked operation ts) (map_ok operation_of (needed name Missing Missing)))
  where
    ask_with : Option (List ℕ) → AskedOf → AskOf
    ask_with b a = record { batch_id = b; asked = a }

ask_beside : (ts : Trees) (n : ℕ) → at as_enumeration operation_tag ts ≡ There n → is_on_object (operation_of n) ≡ true
    → is_some_placeholder (first unique_identifier (inside request_payload ts)) ≡ true
    → ask_in (structure 0 (told_fields ts)) ≡ map_ok (ask_at ts) (asked_beside (operation_of n) (inside request_payload ts))
unfolding ask_in as_structure item_at
ask_beside ts n name on means =
    ap (λ (o : Option Tree). item_at (told_fields ts) (typed as_enumeration o) (at as_bytes unique_batch_item_id (told_fields ts))) (first_told operation_tag ts (λ e. omega (arith, e)))
    ∙ ap (λ (f : Field ℕ). item_at (told_fields ts) f (at as_bytes unique_batch_item_id (told_fields ts))) name
    ∙ ap (λ (o : Option Tree). item_at (told_fields ts) (There n) (typed as_bytes o)) (first_told unique_batch_item_id ts (λ e. omega (arith, e)))
    ∙ ap (λ (r : Result AskedOf OutsideKind). map_ok (ask_at ts) r) (payload_beside (operation_of n) ts on means)

-- it always means the ID Placeholder
abbrev with_id : Option (List ℕ) → AskedOf → AskOf
with_id b a = record { batch_id = b; asked = a }

stands : (unordered : Bool) (ask : AskOf) → means_placeholder ask.asked ≡ true → kept_if (may_stand unordered ask) ask Unordered ≡ kept_if (not unordered) ask Unordered
stands true ask e = rw e refl
stands false ask e = refl

may_beside : (unordered : Bool) (b : Option (List ℕ)) (operation : Operation) (us : Trees) → is_on_object operation ≡ true
    → passing (may_stand unordered) Unordered (map_ok (with_id b) (asked_beside operation us)) ≡ passing (λ ask. not unordered) Unordered (map_ok (with_id b) (asked_beside operation us))
may_beside unordered b Get us e = by (unless_there (first key_wrapping_specification us) Wrapped)
  where
    by : (r : Result (Unit {0}) OutsideKind) → passing (may_stand unordered) Unordered (map_ok (with_id b) (map_ok (λ u. gets None) r)) ≡ passing (λ ask. not unordered) Unordered (map_ok (with_id b) (map_ok (λ u. gets None) r))
    by (Ok x) = stands unordered (with_id b (gets None)) refl
    by (Err k) = refl
may_beside unordered b GetAttributes us e = stands unordered (with_id b (gets_attributes (get_attributes_at us None))) refl
may_beside unordered b Activate us e = stands unordered (with_id b (activates None)) refl
may_beside unordered b Revoke us e = by (needed (at as_enumeration revocation_reason_code (inside revocation_reason us)) Missing Missing)
  where
    by : (r : Result ℕ OutsideKind) → passing (may_stand unordered) Unordered (map_ok (with_id b) (map_ok (λ n. revokes (record { id = None; code = n })) r)) ≡ passing (λ ask. not unordered) Unordered (map_ok (with_id b) (map_ok (λ n. revokes (record { id = None; code = n })) r))
    by (Ok n) = stands unordered (with_id b (revokes (record { id = None; code = n }))) refl
    by (Err k) = refl
may_beside unordered b Destroy us e = stands unordered (with_id b (destroys None)) refl
may_beside unordered b Create us e = cc
may_beside unordered b Register us e = cc
may_beside unordered b Locate us e = cc
may_beside unordered b (Idle n) us e = cc
may_beside unordered b (Other n) us e = cc

if_some : (operation found : Operation) (payload : Trees) → if_on_object operation payload ≡ Some found
    → (found ≡ operation) × (is_on_object operation ≡ true) × (is_some_placeholder (first unique_identifier payload) ≡ true)
if_some operation found payload e = by (is_on_object operation) (is_some_placeholder (first unique_identifier payload)) refl refl e
  where
    by : (b c : Bool) → is_on_object operation ≡ b → is_some_placeholder (first unique_identifier payload) ≡ c → (if b && c then Some operation else None) ≡ Some found
        → (found ≡ operation) × (is_on_object operation ≡ true) × (is_some_placeholder (first unique_identifier payload) ≡ true)
    by false c be ce g = cc
    by true false be ce g = cc
    by true true be ce g = (cc, be, ce)

of_field : (unordered : Bool) (n : ℕ) (ts : Trees) (f : Field ℕ) (operation : Operation) → at as_enumeration operation_tag ts ≡ f → told_by f (inside request_payload ts) ≡ Some operation
    → item_in unordered (structure n (if asks_on_object f then told_fields ts else ts)) ≡ item_beside unordered operation (structure n ts)
unfolding ask_in as_structure
of_field unordered n ts Absent operation name e = cc
of_field unordered n ts Wrong operation name e = cc
of_field unordered n ts (There m) operation name e =
    let w = if_some (operation_of m) operation (inside request_payload ts) e in
    of_named w.0 w.1 w.2
  where
    of_named : operation ≡ operation_of m → is_on_object (operation_of m) ≡ true → is_some_placeholder (first unique_identifier (inside request_payload ts)) ≡ true
        → item_in unordered (structure n (if is_on_object (operation_of m) then told_fields ts else ts)) ≡ item_beside unordered operation (structure n ts)
    of_named is on means =
        ap (λ (b : Bool). item_in unordered (structure n (if b then told_fields ts else ts))) on
        ∙ ap (λ (r : Result AskOf OutsideKind). passing (may_stand unordered) Unordered r) (ask_beside ts m name on means)
        ∙ may_beside unordered (value_in (at as_bytes unique_batch_item_id ts)) (operation_of m) (inside request_payload ts) on
        ∙ ap (λ (o : Operation). item_beside unordered o (structure n ts)) (sym is)

pub as_told : (unordered : Bool) (t : Tree) (operation : Operation) → told_operation t ≡ Some operation → item_in unordered (told t) ≡ item_beside unordered operation t
unfolding as_structure first
as_told unordered (structure n ts) operation e = of_field unordered n ts (at as_enumeration operation_tag ts) operation refl e
as_told unordered (scalar n s) operation e = cc
