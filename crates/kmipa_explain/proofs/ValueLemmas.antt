-- What the reasons that speak of attributes say of a declared object, and that at least one attribute is then told.
use Rattle.std.proofs.Common.{◌≡◌, inl, inr, ℕ, ◌+◌, ◌≤◌, ◌==◌, ℤ, pos, Bool, true, false, ◌&&◌, ◌||◌, not, is_some, cond, List, [], ◌∷◌, ◌++◌, map, filter, length, slice_get, Option, Some, None, option_map, refl, sym, ap, ◌∙◌, subst, arith}
use Rattle.std.specs.List.{list_any}
use Rattle.std.specs.Ordering.{int_eq}
use Rattle.std.specs.Prelude.{option_and_then}
use Rattle.std.proofs.lemmas.Bool.Decides.{Decides-eqb, Decides-int_eq}
use Rattle.std.proofs.lemmas.Option.{slice_get-map}
use Rattle.kmipa_attrs.specs.ObjectTypes.{type_number}
use Rattle.kmipa_attrs.specs.Sets.{Attributes, NameOf, name_of}
use Rattle.kmipa_attrs.specs.declared.name.Name.{Name as OwnName}
use Rattle.kmipa_attrs.specs.declared.object_type.ObjectType.{ObjectType as KindOf}
use Rattle.kmipa_attrs.specs.declared.object_type.ObjectType.TheVariants.{SymmetricKey, SecretData}
use Rattle.kmipa_object.specs.Inventory.{Card, live, place_of}
use Rattle.kmipa_object.specs.Life.{state, state_number}
use Rattle.kmipa_store.specs.Ledger.{Held, Meaning, cards_of}
use Rattle.kmipa_msgs.specs.Messages.{RulesOf, AskedOf, PayloadOf, GetAttributesOf, GotOf, GotAttributesOf, RegisteredOf, creates, registers, locates, gets, gets_attributes, activates, revokes, destroys, idles, does_other}
use Rattle.kmipa_msgs.specs.Messages
use Rattle.kmipa_msgs.specs.declared.response.Status.{Status}
use Rattle.kmipa_msgs.specs.declared.response.Status.TheVariants.{Success, Failed, Undone}
use Rattle.kmipa_record.specs.Entries.{EntryOf}
use Rattle.kmipa_ops.specs.Create.{seen_created, CreateReason}
use Rattle.kmipa_ops.specs.Get.{seen_got, GetReason, IsOther}
use Rattle.kmipa_ops.specs.GetAttributes.{AttributesAreDecided, HasRequired, IsOwnAt, asks_for, has_stranger, is_foreign_date, lacks_asked, lacks_date, lacks_name, lacks_value, seen_attributes, shows_foreign, shows_other_date, shows_other_value, GetAttributesReason}
use Rattle.kmipa_ops.specs.Locate.{seen_located, LocateReason}
use Rattle.kmipa_ops.specs.Meant.{object_meant}
use Rattle.kmipa_ops.specs.Objects.{card_meant, clash, is_other, meant, same_name}
use Rattle.kmipa_ops.specs.Reasons.{DoneReason, OutcomeReason}
use Rattle.kmipa_ops.specs.Register.{seen_registered, RegisterReason}
use Rattle.kmipa_ops.specs.declared.judged.Judged.TheVariants.{Name, ObjectType, CryptographicAlgorithm, State}
use Rattle.kmipa_ops.specs.declared.why.Why.TheVariants.{AttributeDiffers, AttributeMissing}
use Rattle.kmipa_check.specs.Described.{card_declared}
use Rattle.kmipa_check.specs.Left.{entry_left}
use Rattle.kmipa_explain.specs.Items.{about}
use Rattle.kmipa_explain.specs.ValueReasons.{IsForeign, LacksRequired, ShowsForeign}
use Rattle.kmipa_explain.specs.Values.{AreAllDiffering, AreAllMissing, AreDiffering, AreMissing, TellsSome, attributes_asked, attributes_at, fields_shown, is_apart, is_differing, is_missing, is_stranger, missing_names, missing_values, names_differing, shape_shown, single_attributes, strangers, values_apart, values_differing}
use Rattle.kmipa_explain.specs.declared.held.AttributesHeld.{AttributesHeld}

-- ---- the object that is meant

held_card : (o : Option Held) (c : Card) → option_map (λ (h : Held). h.card) o ≡ Some c → (h : Held) × (o ≡ Some h) × (h.card ≡ c)
held_card None c e = let bad : ⊥ = cc in absurd bad
held_card (Some h) c e = (h, refl, cc)

held_at_place : (hs : List Held) (o : Option ℕ) (c : Card) → option_and_then (slice_get (cards_of hs)) o ≡ Some c → (h : Held) × (option_and_then (slice_get hs) o ≡ Some h) × (h.card ≡ c)
held_at_place hs None c e = let bad : ⊥ = cc in absurd bad
held_at_place hs (Some p) c e = held_card (slice_get hs p) c (sym (slice_get-map (λ (h : Held). h.card) hs p) ∙ e)

pub held_meant : (hs : List Held) (id : Option (List ℕ)) (c : Card) → card_meant (cards_of hs) id ≡ Some c → (h : Held) × (object_meant hs id ≡ Some h) × (h.card ≡ c)
held_meant hs None c e = let bad : ⊥ = cc in absurd bad
held_meant hs (Some id) c e = held_at_place hs (place_of id (cards_of hs)) c e

-- over a ledger, whose objects are declared so
module _ (m : Meaning) (rules : RulesOf) (p : Option (List ℕ)) (t : ℤ) (object : Option (List ℕ) → Option EntryOf)
    (stands : (id : Option (List ℕ)) (h : Held) → object_meant m.objects id ≡ Some h → object id ≡ Some (entry_left m.secrets h)) where
  -- ---- AttributeMissing

  created_lacks : (a : _) (x : Option RegisteredOf) → CreateReason rules (cards_of m.objects) a x AttributeMissing → ⊥
  created_lacks a None r = r
  created_lacks a (Some x) r = r

  registered_lacks : (a : _) (x : Option RegisteredOf) → RegisterReason rules (cards_of m.objects) a x AttributeMissing → ⊥
  registered_lacks a None r = r
  registered_lacks a (Some x) r = r

  located_lacks : (q : _) (x : Option (List (List ℕ))) → LocateReason (cards_of m.objects) t q x AttributeMissing → ⊥
  located_lacks q None r = r
  located_lacks q (Some x) r = r

  got_lacks : (id : Option (List ℕ)) (x : Option GotOf) → GetReason rules m id t x AttributeMissing → ⊥
  got_lacks id None r = r
  got_lacks id (Some x) r = r

  told_lacks : (id : Option (List ℕ)) (g : GetAttributesOf) (payload : Option PayloadOf) → GetAttributesReason rules (cards_of m.objects) id t g (option_and_then seen_attributes payload) AttributeMissing
      → LacksRequired (object id) (gets_attributes g) payload
  told_lacks id g None r = absurd r
  told_lacks id g (Some (Messages.created x)) r = absurd r
  told_lacks id g (Some (Messages.registered x)) r = absurd r
  told_lacks id g (Some (Messages.located x)) r = absurd r
  told_lacks id g (Some (Messages.got x)) r = absurd r
  told_lacks id g (Some (Messages.got_attributes a)) r =
      let h = held_meant m.objects id r.0 r.1 in
      let P : Card → Type 0 = λ c. HasRequired g c a.attributes → ⊥ in
      record {
        entry = entry_left m.secrets h.0;
        there = stands id h.0 h.1;
        request = g;
        is_asked = refl;
        answer = a;
        is_shown = refl;
        lacks = subst P (sym h.2) r.2;
      }
  told_lacks id g (Some (Messages.changed x)) r = absurd r

  done_lacks : (asked : AskedOf) (payload : Option PayloadOf) → DoneReason rules m p t asked payload AttributeMissing → LacksRequired (object (about p asked payload)) asked payload
  done_lacks (creates a) payload r = absurd (created_lacks a (option_and_then seen_created payload) r)
  done_lacks (registers a) payload r = absurd (registered_lacks a (option_and_then seen_registered payload) r)
  done_lacks (locates q) payload r = absurd (located_lacks q (option_and_then seen_located payload) r)
  done_lacks (gets id) payload r = absurd (got_lacks (meant id p) (option_and_then seen_got payload) r)
  done_lacks (gets_attributes g) payload r = told_lacks (meant g.id p) g payload r
  done_lacks (activates id) payload r = absurd r
  done_lacks (revokes a) payload r = absurd r
  done_lacks (destroys id) payload r = absurd r
  done_lacks (idles number) payload r = absurd r
  done_lacks (does_other number) payload r = absurd r

  pub lacks : (status : Status) (asked : AskedOf) (reason : Option ℕ) (payload : Option PayloadOf) → OutcomeReason status rules m p t asked reason payload AttributeMissing
      → LacksRequired (object (about p asked payload)) asked payload
  lacks Success asked reason payload r = done_lacks asked payload r
  lacks Undone asked reason payload r = done_lacks asked payload r
  lacks Failed asked reason payload r = absurd r

  -- ---- AttributeDiffers

  created_foreign : (a : _) (x : Option RegisteredOf) → CreateReason rules (cards_of m.objects) a x AttributeDiffers → ⊥
  created_foreign a None r = r
  created_foreign a (Some x) r = r

  registered_foreign : (a : _) (x : Option RegisteredOf) → RegisterReason rules (cards_of m.objects) a x AttributeDiffers → ⊥
  registered_foreign a None r = r
  registered_foreign a (Some x) r = r

  located_foreign : (q : _) (x : Option (List (List ℕ))) → LocateReason (cards_of m.objects) t q x AttributeDiffers → ⊥
  located_foreign q None r = r
  located_foreign q (Some x) r = r

  got_foreign : (id : Option (List ℕ)) (payload : Option PayloadOf) → GetReason rules m id t (option_and_then seen_got payload) AttributeDiffers → ShowsForeign (object id) t payload
  got_foreign id None r = absurd r
  got_foreign id (Some (Messages.created x)) r = absurd r
  got_foreign id (Some (Messages.registered x)) r = absurd r
  got_foreign id (Some (Messages.located x)) r = absurd r
  got_foreign id (Some (Messages.got a)) r = record { entry = entry_left m.secrets r.0; there = stands id r.0 r.1; shown = Messages.got a; is_shown = refl; foreign = r.2 }
  got_foreign id (Some (Messages.got_attributes x)) r = absurd r
  got_foreign id (Some (Messages.changed x)) r = absurd r

  told_foreign : (id : Option (List ℕ)) (g : GetAttributesOf) (payload : Option PayloadOf)
      → GetAttributesReason rules (cards_of m.objects) id t g (option_and_then seen_attributes payload) AttributeDiffers → ShowsForeign (object id) t payload
  told_foreign id g None r = absurd r
  told_foreign id g (Some (Messages.created x)) r = absurd r
  told_foreign id g (Some (Messages.registered x)) r = absurd r
  told_foreign id g (Some (Messages.located x)) r = absurd r
  told_foreign id g (Some (Messages.got x)) r = absurd r
  told_foreign id g (Some (Messages.got_attributes a)) r =
      let h = held_meant m.objects id r.0 r.1 in
      let P : Card → Type 0 = λ c. IsOwnAt c t a.attributes → ⊥ in
      record { entry = entry_left m.secrets h.0; there = stands id h.0 h.1; shown = Messages.got_attributes a; is_shown = refl; foreign = subst P (sym h.2) r.2 }
  told_foreign id g (Some (Messages.changed x)) r = absurd r

  done_foreign : (asked : AskedOf) (payload : Option PayloadOf) → DoneReason rules m p t asked payload AttributeDiffers → ShowsForeign (object (about p asked payload)) t payload
  done_foreign (creates a) payload r = absurd (created_foreign a (option_and_then seen_created payload) r)
  done_foreign (registers a) payload r = absurd (registered_foreign a (option_and_then seen_registered payload) r)
  done_foreign (locates q) payload r = absurd (located_foreign q (option_and_then seen_located payload) r)
  done_foreign (gets id) payload r = got_foreign (meant id p) payload r
  done_foreign (gets_attributes g) payload r = told_foreign (meant g.id p) g payload r
  done_foreign (activates id) payload r = absurd r
  done_foreign (revokes a) payload r = absurd r
  done_foreign (destroys id) payload r = absurd r
  done_foreign (idles number) payload r = absurd r
  done_foreign (does_other number) payload r = absurd r

  pub foreign : (status : Status) (asked : AskedOf) (reason : Option ℕ) (payload : Option PayloadOf) → OutcomeReason status rules m p t asked reason payload AttributeDiffers
      → ShowsForeign (object (about p asked payload)) t payload
  foreign Success asked reason payload r = done_foreign asked payload r
  foreign Undone asked reason payload r = done_foreign asked payload r
  foreign Failed asked reason payload r = absurd r

-- ---- what a list leaves out

-- each fails the test
abbrev AllFail : {X : Type 0} → (X → Bool) → List X → Type 0
AllFail test [] = Unit {0}
AllFail test (x ∷ xs) = (test x ≡ false) × AllFail test xs

module _ {X : Type 0} (test : X → Bool) where
  none_kept : (xs : List X) → filter test xs ≡ [] → AllFail test xs
  none_kept [] e = tt
  none_kept (x ∷ xs) e = by (test x) refl (none_kept xs)
    where
      by : (b : Bool) → test x ≡ b → (filter test xs ≡ [] → AllFail test xs) → (test x ≡ false) × AllFail test xs
      by true is rest = let bad : x ∷ filter test xs ≡ [] = ap (λ (b : Bool). cond b (x ∷ filter test xs) (filter test xs)) (sym is) ∙ e in absurd cc
      by false is rest = (is, rest (ap (λ (b : Bool). cond b (x ∷ filter test xs) (filter test xs)) (sym is) ∙ e))

  any_fails : (xs : List X) → AllFail test xs → list_any test xs ≡ false
  any_fails [] f = refl
  any_fails (x ∷ xs) f = ap (λ (b : Bool). b || list_any test xs) f.0 ∙ any_fails xs f.1

map_empty : {X Y : Type 0} (f : X → Y) (xs : List X) → map f xs ≡ [] → xs ≡ []
map_empty f [] e = refl
map_empty f (x ∷ xs) e = absurd cc

append_empty : {X : Type 0} (xs ys : List X) → xs ++ ys ≡ [] → (xs ≡ []) × (ys ≡ [])
append_empty [] ys e = (refl, e)
append_empty (x ∷ xs) ys e = absurd cc

at_least_one : {X Y : Type 0} (xs : List X) (ys : List Y) → (xs ≡ [] → ys ≡ [] → ⊥) → 1 ≤ length xs + length ys
at_least_one [] [] some = absurd (some refl refl)
at_least_one [] (y ∷ ys) some = omega arith
at_least_one (x ∷ xs) ys some = omega arith

-- ---- names that aren't among others

any_map : {X Y : Type 0} (f : X → Y) (test : Y → Bool) (xs : List X) → list_any test (map f xs) ≡ list_any (λ (x : X). test (f x)) xs
any_map f test [] = refl
any_map f test (x ∷ xs) = ap (λ (b : Bool). test (f x) || b) (any_map f test xs)

pub stranger_is : (known : List OwnName) (n : NameOf) (among : Bool) → among ≡ list_any (λ (other : OwnName). same_name (name_of other) n) known → not among ≡ is_stranger (map name_of known) n
stranger_is known n among is = ap not (is ∙ sym (any_map name_of (λ (k : NameOf). same_name k n) known))

pub filter_map : {X Y : Type 0} (f : X → Y) (test : Y → Bool) (xs : List X) → map f (filter (λ (x : X). test (f x)) xs) ≡ filter test (map f xs)
filter_map f test [] = refl
filter_map f test (x ∷ xs) = out (test (f x)) ∙ ap (λ (ys : List _). cond (test (f x)) (f x ∷ ys) ys) (filter_map f test xs)
  where
    out : (b : Bool) → map f (cond b (x ∷ filter (λ y. test (f y)) xs) (filter (λ y. test (f y)) xs)) ≡ cond b (f x ∷ map f (filter (λ y. test (f y)) xs)) (map f (filter (λ y. test (f y)) xs))
    out true = refl
    out false = refl

no_stranger : (known names : List NameOf) → strangers known names ≡ [] → has_stranger known names ≡ false
no_stranger known names none = any_fails (is_stranger known) names (none_kept (is_stranger known) names none)

-- ---- tests that fail

or_false : (a b : Bool) → a ≡ false → b ≡ false → (a || b) ≡ false
or_false a b e f = ap (λ (x : Bool). x || b) e ∙ f

five_false : (a b c d e : Bool) → a ≡ false → b ≡ false → c ≡ false → d ≡ false → e ≡ false → (a || b || c || d || e) ≡ false
five_false a b c d e p q r s u = or_false (a || b || c || d) e (or_false (a || b || c) d (or_false (a || b) c (or_false a b p q) r) s) u

last_false : (a b c : Bool) → c ≡ false → (a && b && c) ≡ false
last_false true true c e = e
last_false true false c e = refl
last_false false b c e = refl

-- ---- nothing is missing

unshown : (asked own : Bool) (shown : Option ℕ) → (asked && own && not (is_some (option_map pos shown))) ≡ false → (asked && own && not (is_some shown)) ≡ false
unshown asked own None e = e
unshown asked own (Some x) e = e

unheld : (asked : Bool) (own : Option ℕ) (shown : Bool) → (asked && is_some (option_map pos own) && shown) ≡ false → (asked && is_some own && shown) ≡ false
unheld asked None shown e = e
unheld asked (Some x) shown e = e

named : (asked : Bool) (shown own : List NameOf) → cond asked (strangers shown own) [] ≡ [] → (asked && has_stranger shown own) ≡ false
named true shown own none = no_stranger shown own none
named false shown own none = refl

module _ (law : AttributesAreDecided) (e : EntryOf) (t : ℤ) where
  abbrev own : Attributes
  own = attributes_at e t

  nothing_missing : (g : GetAttributesOf) (shown : Attributes) → missing_names g shown own ≡ [] → missing_values g shown own ≡ [] → HasRequired g (card_declared e) shown
  nothing_missing g shown none empty =
      let c = card_declared e in
      let f = none_kept (is_missing g shown own) single_attributes (map_empty _ (filter (is_missing g shown own) single_attributes) empty) in
      let date : lacks_date g c.dates shown ≡ false = five_false _ _ _ _ _ f.1.1.1.1.1.1.1.0 f.0 f.1.1.1.1.1.0 f.1.1.1.1.1.1.0 f.1.0 in
      let algorithm = unshown (asks_for g CryptographicAlgorithm) (is_some c.given.algorithm) shown.algorithm (unheld (asks_for g CryptographicAlgorithm) c.given.algorithm (not (is_some (option_map pos shown.algorithm))) f.1.1.0) in
      let value : lacks_value g c shown ≡ false =
      five_false _ _ _ _ _ (unshown (asks_for g ObjectType) true shown.object_type f.1.1.1.1.1.1.1.1.0) (unshown (asks_for g State) true shown.state f.1.1.1.1.1.1.1.1.1.0) algorithm f.1.1.1.0 f.1.1.1.1.0 in
      let name : lacks_name g c shown ≡ false = named (asks_for g Name) shown.names e.attributes.names none in
      let asked : lacks_asked g c shown ≡ false = or_false (lacks_name g c shown || lacks_value g c shown) (lacks_date g c.dates shown) (or_false (lacks_name g c shown) (lacks_value g c shown) name value) date in
      (law.1 g c shown).0 (last_false (live c) (not g.has_others) (lacks_asked g c shown) asked)

  pub some_missing : (g : GetAttributesOf) (shown : Attributes) (a : AttributesHeld) → (HasRequired g (card_declared e) shown → ⊥) → AreAllMissing g shown own a → TellsSome a
  some_missing g shown a lacks all = at_least_one a.names.items a.values.items (λ none empty. lacks (nothing_missing g shown (sym all.names ∙ ap (map name_of) none) (sym all.values ∙ empty)))

-- ---- nothing differs

not_not : (b : Bool) → not b ≡ false → b ≡ true
not_not true e = refl
not_not false e = cc

same_value : (unknown : Bool) (x y : ℤ) → is_apart unknown (Some x) (Some y) ≡ false → x ≡ y
same_value unknown x y e = (Decides-int_eq x y).0 (not_not (int_eq x y) e)

same_number : (unknown : Bool) (x y : ℕ) → is_apart unknown (Some (pos x)) (Some (pos y)) ≡ false → x ≡ y
same_number unknown x y e = let same : pos x ≡ pos y = same_value unknown (pos x) (pos y) e in cc

unclashed : (shown own : Option ℤ) → is_apart true shown own ≡ false → clash int_eq shown own ≡ false
unclashed None own e = refl
unclashed (Some x) None e = refl
unclashed (Some x) (Some y) e = ap not ((Decides-int_eq y x).1 (sym (same_value true x y e)))

unclashed_numbers : (shown own : Option ℕ) → is_apart true (option_map pos shown) (option_map pos own) ≡ false → clash (λ (x y : ℕ). x == y) shown own ≡ false
unclashed_numbers None own e = refl
unclashed_numbers (Some x) None e = refl
unclashed_numbers (Some x) (Some y) e = ap not ((Decides-eqb y x).1 (sym (same_number true x y e)))

own_number : (shown : Option ℕ) (own : ℕ) → is_apart false (option_map pos shown) (Some (pos own)) ≡ false → is_other (λ (x y : ℕ). x == y) shown own ≡ false
own_number None own e = refl
own_number (Some x) own e = ap not ((Decides-eqb x own).1 (same_number false x own e))

own_date : (shown own : Option ℤ) → is_apart false shown own ≡ false → is_foreign_date shown own ≡ false
own_date None own e = refl
own_date (Some x) None e = e
own_date (Some x) (Some y) e = e

one_type : (a b : KindOf) → type_number a ≡ type_number b → a ≡ b
one_type SymmetricKey SymmetricKey e = refl
one_type SymmetricKey SecretData e = absurd cc
one_type SecretData SymmetricKey e = absurd cc
one_type SecretData SecretData e = refl

module _ (law : AttributesAreDecided) (e : EntryOf) (t : ℤ) where
  abbrev mine : Attributes
  mine = attributes_at e t

  none_apart : (shown : Attributes) → values_apart shown mine ≡ [] → AllFail (is_differing shown mine) single_attributes
  none_apart shown empty = none_kept (is_differing shown mine) single_attributes (map_empty _ (filter (is_differing shown mine) single_attributes) empty)

  nothing_foreign : (shown : Attributes) → strangers mine.names shown.names ≡ [] → values_apart shown mine ≡ [] → IsOwnAt (card_declared e) t shown
  nothing_foreign shown none empty =
      let c = card_declared e in
      let s = state c.dates t in
      let f = none_apart shown empty in
      let date : shows_other_date c.dates shown ≡ false =
      five_false _ _ _ _ _ (unclashed shown.initial c.dates.initial f.1.1.1.1.1.1.1.0) (own_date shown.activation c.dates.activation f.0)
      (own_date shown.deactivation c.dates.deactivation f.1.1.1.1.1.0) (own_date shown.destroy c.dates.destroy f.1.1.1.1.1.1.0) (own_date shown.compromise c.dates.compromise f.1.0) in
      let value : shows_other_value c s shown ≡ false =
      five_false _ _ _ _ _ (own_number shown.object_type (type_number c.kind) f.1.1.1.1.1.1.1.1.0) (own_number shown.state (state_number s) f.1.1.1.1.1.1.1.1.1.0)
      (unclashed_numbers shown.algorithm c.given.algorithm f.1.1.0) (unclashed shown.length c.given.length f.1.1.1.0) (unclashed shown.mask c.given.mask f.1.1.1.1.0) in
      let foreign : shows_foreign c s shown ≡ false =
      or_false (has_stranger c.given.names shown.names || shows_other_value c s shown) (shows_other_date c.dates shown)
      (or_false (has_stranger c.given.names shown.names) (shows_other_value c s shown) (no_stranger e.attributes.names shown.names none) value) date in
      (law.0 c t shown).0 foreign

  -- what a Get shows beside the bytes
  own_type : (a : GotOf) → values_apart (fields_shown a) mine ≡ [] → (x : KindOf) → a.object_type ≡ Some x → x ≡ e.kind
  own_type a empty x is =
      let f = (none_apart (fields_shown a) empty).1.1.1.1.1.1.1.1.0 in
      one_type x e.kind (same_number false (type_number x) (type_number e.kind) (ap (λ (o : Option KindOf). is_apart false (option_map pos (option_map type_number o)) (Some (pos (type_number e.kind)))) (sym is) ∙ f))

  own_shape : (a : GotOf) → values_apart (shape_shown a) mine ≡ [] → a.shape ≡ e.kind
  own_shape a empty = one_type a.shape e.kind (same_number false (type_number a.shape) (type_number e.kind) (none_apart (shape_shown a) empty).1.1.1.1.1.1.1.1.0)

  own_algorithm : (a : GotOf) → values_apart (fields_shown a) mine ≡ [] → (x y : ℕ) → a.block.algorithm ≡ Some x → e.attributes.algorithm ≡ Some y → x ≡ y
  own_algorithm a empty x y shown has =
      let f = (none_apart (fields_shown a) empty).1.1.0 in
      same_number true x y (ap (λ (o : Option ℕ). is_apart true (option_map pos o) (Some (pos y))) (sym shown) ∙ ap (λ (o : Option ℕ). is_apart true (option_map pos a.block.algorithm) (option_map pos o)) (sym has) ∙ f)

  own_length : (a : GotOf) → values_apart (fields_shown a) mine ≡ [] → (x y : ℤ) → a.block.length ≡ Some x → e.attributes.length ≡ Some y → x ≡ y
  own_length a empty x y shown has =
      let f = (none_apart (fields_shown a) empty).1.1.1.0 in
      same_value true x y (ap (λ (o : Option ℤ). is_apart true o (Some y)) (sym shown) ∙ ap (λ (o : Option ℤ). is_apart true a.block.length o) (sym has) ∙ f)

  nothing_other : (a : GotOf) → values_apart (fields_shown a) mine ≡ [] → values_apart (shape_shown a) mine ≡ [] → IsOther a (card_declared e) → ⊥
  nothing_other a fields shape (inl (inl (inl d))) = d.2 (own_type a fields d.0 d.1)
  nothing_other a fields shape (inl (inl (inr other))) = other (own_shape a shape)
  nothing_other a fields shape (inl (inr d)) = d.2.2 (own_algorithm a fields d.2.0 d.0 d.2.1 d.1)
  nothing_other a fields shape (inr d) = d.2.2 (own_length a fields d.2.0 d.0 d.2.1 d.1)

  nothing_differs : (shown : PayloadOf) → IsForeign e t shown → names_differing shown mine ≡ [] → values_differing shown mine ≡ [] → ⊥
  nothing_differs (Messages.created x) bad none empty = bad
  nothing_differs (Messages.registered x) bad none empty = bad
  nothing_differs (Messages.located x) bad none empty = bad
  nothing_differs (Messages.got a) other none empty =
      let parts = append_empty (values_apart (fields_shown a) mine) (values_apart (shape_shown a) mine) empty in
      nothing_other a parts.0 parts.1 other
  nothing_differs (Messages.got_attributes a) other none empty = other (nothing_foreign a.attributes none empty)
  nothing_differs (Messages.changed x) bad none empty = bad

  pub some_differing : (shown : PayloadOf) (a : AttributesHeld) → IsForeign e t shown → AreAllDiffering shown mine a → TellsSome a
  some_differing shown a other all = at_least_one a.names.items a.values.items (λ none empty. nothing_differs shown other (sym all.names ∙ ap (map name_of) none) (sym all.values ∙ empty))

-- ---- what is told

module _ (law : AttributesAreDecided) (object : Option EntryOf) (t : ℤ) (payload : Option PayloadOf) (e : EntryOf) (there : object ≡ Some e) (given : Attributes) (is : given ≡ attributes_at e t) where
  pub missing_told : (asked : AskedOf) (g : GetAttributesOf) (x : GotAttributesOf) (a : AttributesHeld) → LacksRequired object asked payload → attributes_asked asked ≡ Some g
      → option_and_then seen_attributes payload ≡ Some x → AreAllMissing g x.attributes given a → AreMissing object t asked payload a
  missing_told asked g x a r is_asked is_shown all =
      let here = r.there in
      let asked_here = r.is_asked in
      let shown_here = r.is_shown in
      let one : r.entry ≡ e = cc in
      let same : r.request ≡ g = cc in
      let its : r.answer ≡ x = cc in
      let P : Attributes → Type 0 = λ own. AreAllMissing g x.attributes own a in
      let E : EntryOf → Type 0 = λ y. HasRequired g (card_declared y) x.attributes → ⊥ in
      let G : GetAttributesOf → Type 0 = λ y. HasRequired y (card_declared r.entry) x.attributes → ⊥ in
      let X : GotAttributesOf → Type 0 = λ y. HasRequired r.request (card_declared r.entry) y.attributes → ⊥ in
      record {
        entry = e;
        there = there;
        request = g;
        is_asked = is_asked;
        answer = x;
        is_shown = is_shown;
        all = subst P is all;
        some = some_missing law e t g x.attributes a (subst E one (subst G same (subst X its r.lacks))) (subst P is all);
      }

  pub differing_told : (shown : PayloadOf) (a : AttributesHeld) → ShowsForeign object t payload → payload ≡ Some shown → AreAllDiffering shown given a → AreDiffering object t payload a
  differing_told shown a r is_shown all =
      let here = r.there in
      let shown_here = r.is_shown in
      let one : r.entry ≡ e = cc in
      let its : r.shown ≡ shown = cc in
      let P : Attributes → Type 0 = λ own. AreAllDiffering shown own a in
      let E : EntryOf → Type 0 = λ y. IsForeign y t shown in
      let X : PayloadOf → Type 0 = λ y. IsForeign r.entry t y in
      record {
        entry = e;
        there = there;
        shown = shown;
        is_shown = is_shown;
        all = subst P is all;
        some = some_differing law e t shown a (subst E one (subst X its r.foreign)) (subst P is all);
      }
