-- What is told of a header, and what is at fault with it.
use Rattle.std.proofs.Common.{◌≡◌, ◌⊎◌, ℕ, pos, Bool, true, false, not, ◌==◌, ◌&&◌, List, [], ◌∷◌, length, Option, Some, None, refl, sym, ap, ◌∙◌, subst, inl, inr, eq-eqb}
use Rattle.kmipa_ttlv.specs.Tree.{Tree, Trees, tag_of}
use Rattle.kmipa_attrs.specs.Fields.{at, inside, as_structure, as_integer, as_enumeration, as_boolean, as_date}
use Rattle.kmipa_attrs.specs.Readings.{IsWrong, NeededFault}
use Rattle.kmipa_attrs.specs.Tags.{batch_count, batch_error_continuation_option, batch_order_option, protocol_version, protocol_version_major, protocol_version_minor, request_header_tag, request_message, response_header_tag, response_message, time_stamp}
use Rattle.kmipa_attrs.specs.declared.fields.Field.{Field}
use Rattle.kmipa_attrs.specs.declared.fields.Field.TheVariants.{Absent, Wrong, There}
use Rattle.kmipa_msgs.specs.declared.kind.OutsideKind.{OutsideKind}
use Rattle.kmipa_msgs.specs.declared.kind.OutsideKind.TheVariants.{NotAMessage, Version, Count, Missing}
use Rattle.kmipa_msgs.specs.Headers.{is_structure, is_message, is_number, count_is, is_version, is_count, batch}
use Rattle.kmipa_msgs.specs.Numbers.{option_of}
use Rattle.kmipa_msgs.specs.Requests.{HeaderFault, OptionFault, request_header}
use Rattle.kmipa_msgs.specs.Requests.{HeaderFault as header}
use Rattle.kmipa_msgs.specs.Responses.{StampFault, response_header}
use Rattle.kmipa_msgs.specs.Responses.{StampFault as stamp}
use Rattle.kmipa_msgs.specs.Tables.{Unlisted, children}
use Rattle.kmipa_outside.specs.Demands.{Fails}
use Rattle.kmipa_outside.specs.HeaderDemands.{request_header_demands, response_header_demands}
use Rattle.kmipa_outside.specs.Laws.{AnyOf, Each, IsBroken}
use Rattle.kmipa_outside.specs.Requests.{header_demand}
use Rattle.kmipa_outside.specs.declared.demand.Demand.{Demand}
use Rattle.kmipa_outside.specs.declared.demand.Numbers.TheVariants as numbers
use Rattle.kmipa_outside.specs.declared.demand.Wanted.TheVariants as wanted
use Rattle.kmipa_outside.specs.declared.types.ItemType.TheVariants as type
use Rattle.kmipa_outside.proofs.FailLemmas.{Fail, decides_structure, decides_enumeration, decides_boolean, decides_date, wrong, fails_wrong, needed, fails_needed}
use Rattle.kmipa_outside.proofs.NumberLemmas.{unlisted, fails_unlisted, version_is, count_is_so}
use Rattle.kmipa_outside.proofs.ToldLemmas.{any_reason}

pub and_either : (b c : Bool) → (b && c) ≡ false → (b ≡ false) ⊎ (c ≡ false)
and_either true c e = inr e
and_either false c e = inl refl

pub and_left : (b c : Bool) → b ≡ false → (b && c) ≡ false
and_left b c e = ap (λ (x : Bool). x && c) e

pub and_right : (b c : Bool) → c ≡ false → (b && c) ≡ false
and_right true c e = e
and_right false c e = refl

pub not_true : (b : Bool) → not b ≡ true → b ≡ false
not_true true e = let h : false ≡ true = e in cc
not_true false e = refl

-- a header that is a structure, or isn't
no_structure : {K : Type 0} (f : Field Trees) (a k : K) → NeededFault f a a k → is_structure f ≡ false
no_structure Absent a k h = refl
no_structure Wrong a k h = refl
no_structure (There ts) a k h = absurd h

lacks_structure : {K : Type 0} (f : Field Trees) (a : K) → is_structure f ≡ false → NeededFault f a a a
lacks_structure Absent a e = refl
lacks_structure Wrong a e = refl
lacks_structure (There ts) a e = let h : true ≡ false = e in cc

header_none : (message tag : ℕ) (t : Tree) → Fail (wanted.Typed type.Structure) tag (children t) → is_message message tag t ≡ false
header_none message tag t e =
    and_right (tag_of t == message) _ (no_structure (at as_structure tag (children t)) NotAMessage NotAMessage (needed as_structure type.Structure decides_structure tag (children t) NotAMessage e))

header_fails : (message tag : ℕ) (t : Tree) → tag_of t ≡ message → is_message message tag t ≡ false → Fail (wanted.Typed type.Structure) tag (children t)
header_fails message tag t own e = elim (and_either (tag_of t == message) _ e) [
  | inl h ↦ let g : true ≡ false = sym (eq-eqb (tag_of t) message own) ∙ h in cc
  | inr h ↦ (fails_needed as_structure type.Structure decides_structure tag (children t) NotAMessage NotAMessage (lacks_structure (at as_structure tag (children t)) NotAMessage h)).1
]

-- the version
major_off : (hs : Trees) → Fail (wanted.Integer (pos 2)) protocol_version_major (inside protocol_version hs) → is_version hs ≡ false
major_off hs e = and_left _ _ (not_true _ (sym (version_is (pos 2) protocol_version_major (inside protocol_version hs)) ∙ e))

minor_off : (hs : Trees) → Fail (wanted.Integer (pos 1)) protocol_version_minor (inside protocol_version hs) → is_version hs ≡ false
minor_off hs e = and_right (is_number (at as_integer protocol_version_major (inside protocol_version hs)) (pos 2)) _ (not_true _ (sym (version_is (pos 1) protocol_version_minor (inside protocol_version hs)) ∙ e))

version_fails : (hs : Trees) → is_version hs ≡ false
    → Fail (wanted.Integer (pos 2)) protocol_version_major (inside protocol_version hs) ⊎ Fail (wanted.Integer (pos 1)) protocol_version_minor (inside protocol_version hs)
version_fails hs e = elim (and_either _ _ e) [
  | inl h ↦ inl (version_is (pos 2) protocol_version_major (inside protocol_version hs) ∙ ap not h)
  | inr h ↦ inr (version_is (pos 1) protocol_version_minor (inside protocol_version hs) ∙ ap not h)
]

-- the count
count_off : (n : ℕ) (hs : Trees) → Fail (wanted.Count n) batch_count hs → is_count hs n ≡ false
count_off n hs e = not_true _ (sym (count_is_so n batch_count hs) ∙ e)

count_fails : (n : ℕ) (hs : Trees) → is_count hs n ≡ false → Fail (wanted.Count n) batch_count hs
count_fails n hs e = count_is_so n batch_count hs ∙ ap not e

-- the option
option_wrong : (f : Field ℕ) → IsWrong f → OptionFault f Missing
option_wrong Absent w = absurd w
option_wrong Wrong w = refl
option_wrong (There n) w = absurd w

option_off : (f : Field ℕ) → Unlisted f option_of → OptionFault f Missing
option_off f u = subst (λ (g : Field ℕ). OptionFault g Missing) (sym u.is) (refl, u.unlisted)

option_either : (f : Field ℕ) (k : OutsideKind) → OptionFault f k → (k ≡ Missing) × (IsWrong f ⊎ Unlisted f option_of)
option_either Absent k h = absurd h
option_either Wrong k h = (h, inl tt)
option_either (There n) k h = (h.0, inr (record { number = n; is = refl; unlisted = h.1 }))

-- ---- requests

request_header_each : (t : Tree) → Each (λ (d : Demand). Fails d (request_header t) → HeaderFault t d.kind) (request_header_demands (length (batch t)))
request_header_each t = (
  (λ e. header.in_version refl (major_off (request_header t) e)),
  (
    (λ e. header.in_version refl (minor_off (request_header t) e)),
    (
      (λ e. header.in_count refl (count_off (length (batch t)) (request_header t) e)),
      (
        (λ e. header.in_option (option_wrong _ (wrong as_enumeration type.Enumeration decides_enumeration batch_error_continuation_option (request_header t) e))),
        (
          (λ e. header.in_option (option_off _ (unlisted numbers.BatchOptions option_of (λ m. refl) batch_error_continuation_option (request_header t) e))),
          (
            (λ e. header.in_ordered refl (wrong as_boolean type.Boolean decides_boolean batch_order_option (request_header t) e)),
            tt,
          ),
        ),
      ),
    ),
  ),
)

pub request_header_reasons : (t : Tree) (k : OutsideKind) → AnyOf (IsBroken k (children t)) (header_demand request_header_tag ∷ []) ⊎ AnyOf (IsBroken k (request_header t)) (request_header_demands (length (batch t)))
    → HeaderFault t k
request_header_reasons t k h = elim h [
  | inl g ↦ elim g [ inl p ↦ header.in_message (sym p.0) (header_none request_message request_header_tag t p.1) | inr q ↦ absurd q ]
  | inr g ↦ any_reason (HeaderFault t) (request_header t) k (request_header_demands (length (batch t))) (request_header_each t) g
]

pub request_header_finds : (t : Tree) (k : OutsideKind) → tag_of t ≡ request_message → HeaderFault t k
    → AnyOf (IsBroken k (children t)) (header_demand request_header_tag ∷ []) ⊎ AnyOf (IsBroken k (request_header t)) (request_header_demands (length (batch t)))
request_header_finds t k own f = elim f [
  | header.in_message e w ↦ inl (inl (sym e, header_fails request_message request_header_tag t own w))
  | header.in_version e w ↦ inr (elim (version_fails (request_header t) w) [ inl h ↦ inl (sym e, h) | inr h ↦ inr (inl (sym e, h)) ])
  | header.in_count e w ↦ inr (inr (inr (inl (sym e, count_fails (length (batch t)) (request_header t) w))))
  | header.in_option w ↦ let g = option_either (at as_enumeration batch_error_continuation_option (request_header t)) k w in
      inr (elim g.1 [
        | inl h ↦ inr (inr (inr (inl (sym g.0, fails_wrong as_enumeration type.Enumeration decides_enumeration batch_error_continuation_option (request_header t) h))))
        | inr h ↦ inr (inr (inr (inr (inl (sym g.0, fails_unlisted numbers.BatchOptions option_of (λ m. refl) batch_error_continuation_option (request_header t) h)))))
      ])
  | header.in_ordered e w ↦ inr (inr (inr (inr (inr (inr (inl (sym e, fails_wrong as_boolean type.Boolean decides_boolean batch_order_option (request_header t) w)))))))
]

-- ---- responses

response_header_each : (t : Tree) → Each (λ (d : Demand). Fails d (response_header t) → StampFault t d.kind) (response_header_demands (length (batch t)))
response_header_each t = (
  (λ e. stamp.in_version refl (major_off (response_header t) e)),
  (
    (λ e. stamp.in_version refl (minor_off (response_header t) e)),
    (
      (λ e. stamp.in_count refl (count_off (length (batch t)) (response_header t) e)),
      (
        (λ e. stamp.in_stamp (needed as_date type.DateTime decides_date time_stamp (response_header t) Missing e)),
        tt,
      ),
    ),
  ),
)

pub response_header_reasons : (t : Tree) (k : OutsideKind) → AnyOf (IsBroken k (children t)) (header_demand response_header_tag ∷ []) ⊎ AnyOf (IsBroken k (response_header t)) (response_header_demands (length (batch t)))
    → StampFault t k
response_header_reasons t k h = elim h [
  | inl g ↦ elim g [ inl p ↦ stamp.in_message (sym p.0) (header_none response_message response_header_tag t p.1) | inr q ↦ absurd q ]
  | inr g ↦ any_reason (StampFault t) (response_header t) k (response_header_demands (length (batch t))) (response_header_each t) g
]

pub response_header_finds : (t : Tree) (k : OutsideKind) → tag_of t ≡ response_message → StampFault t k
    → AnyOf (IsBroken k (children t)) (header_demand response_header_tag ∷ []) ⊎ AnyOf (IsBroken k (response_header t)) (response_header_demands (length (batch t)))
response_header_finds t k own f = elim f [
  | stamp.in_message e w ↦ inl (inl (sym e, header_fails response_message response_header_tag t own w))
  | stamp.in_version e w ↦ inr (elim (version_fails (response_header t) w) [ inl h ↦ inl (sym e, h) | inr h ↦ inr (inl (sym e, h)) ])
  | stamp.in_count e w ↦ inr (inr (inr (inl (sym e, count_fails (length (batch t)) (response_header t) w))))
  | stamp.in_stamp w ↦ let g = fails_needed as_date type.DateTime decides_date time_stamp (response_header t) Missing k w in inr (inr (inr (inr (inl (g.0, g.1)))))
]
