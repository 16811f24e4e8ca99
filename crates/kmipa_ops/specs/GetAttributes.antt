-- Get Attributes: which attributes of an object its answer may show at a moment, and which it must (KMIP 2.1, section 6; what is required: profile).
use Rattle.std.specs.Prelude.{◌↔◌, ◌≡◌, ◌≢◌, ◌==◌, ◌&&◌, ◌||◌, ℕ, ℤ, Bool, true, false, not, is_none, is_some, IsSome, cond, List, Option, Some, None}
use Rattle.std.specs.List.{Contains, list_any}
use Rattle.std.specs.Ordering.{int_eq}
use Rattle.kmipa_attrs.specs.Sets.{NameOf, Attributes}
use Rattle.kmipa_attrs.specs.ObjectTypes.{type_number}
use Rattle.kmipa_attrs.specs.Tags.{activation_date, compromise_date, cryptographic_algorithm, cryptographic_length, cryptographic_usage_mask, deactivation_date, destroy_date, initial_date, name_tag, object_type_tag, state_tag}
use Rattle.kmipa_object.specs.Inventory.{Card, Thing, live}
use Rattle.kmipa_object.specs.Life.{Dates, state, state_number}
use Rattle.kmipa_object.specs.declared.allow.Allow.TheVariants.{Not}
use Rattle.kmipa_msgs.specs.Messages.{RulesOf, GetAttributesOf, GotAttributesOf, PayloadOf, got_attributes}
use Rattle.kmipa_object.specs.declared.state.State.{State as StateOf}
use Rattle.kmipa_store.specs.Ledger.{cards_of}
use Rattle.kmipa_msgs.specs.Sayable.{IsSayableId}
use Rattle.kmipa_ops.specs.Allowance.{allowance}
use Rattle.kmipa_ops.specs.Effects.{shows_attributes}
use Rattle.kmipa_ops.specs.Judging.{Judging}
use Rattle.kmipa_ops.specs.Meant.{is_not}
use Rattle.kmipa_ops.specs.Row.{Deed, on_object}
use Rattle.kmipa_ops.specs.declared.judged.Judged.{Judged}
use Rattle.kmipa_ops.specs.declared.judged.Judged.TheVariants.{Name, ObjectType, CryptographicAlgorithm, CryptographicLength, CryptographicUsageMask, State, InitialDate, ActivationDate, DeactivationDate, DestroyDate, CompromiseDate}
use Rattle.kmipa_ops.specs.declared.why.Why.{Why}
use Rattle.kmipa_ops.specs.declared.why.Why.TheVariants.{NoSuchObject, WrongState, AttributeDiffers, AttributeMissing, EchoDiffers}
use Rattle.kmipa_ops.specs.Objects.{meant, HasObject, card_meant, Echoes, Agree, is_other, is_other_id, clash, same_name, Clashes}
use Rattle.kmipa_object.specs.declared.allow.Act.TheVariants as act

-- WHAT MAY BE SHOWN

-- each of the names is one of those known
abbrev pub AreAmong : List NameOf → List NameOf → Type 0
AreAmong known names = (n : NameOf) → Contains names n → Contains known n

-- the object has what is shown
abbrev pub IsHad : {A : Type 0} → Option A → Option A → Type 0
IsHad None own = Unit {0}
IsHad (Some x) own = own ≡ Some x

-- What is shown is the object's at the moment. An algorithm, a length, a mask or an Initial Date that the object doesn't have isn't judged;
-- of the other four dates none may be shown that the object doesn't have.
pub record IsOwnAt (c : Card) (t : ℤ) (shown : Attributes) : Type 0 where
  pub names : AreAmong c.given.names shown.names
  pub object_type : Echoes shown.object_type (type_number c.kind)
  pub state : Echoes shown.state (state_number (state c.dates t))
  pub algorithm : Agree shown.algorithm c.given.algorithm
  pub length : Agree shown.length c.given.length
  pub mask : Agree shown.mask c.given.mask
  pub initial : Agree shown.initial c.dates.initial
  pub activation : IsHad shown.activation c.dates.activation
  pub deactivation : IsHad shown.deactivation c.dates.deactivation
  pub destroy : IsHad shown.destroy c.dates.destroy
  pub compromise : IsHad shown.compromise c.dates.compromise

-- WHAT IS REQUIRED

-- the tags of the judged attributes
abbrev pub judged_tag : Judged → ℕ
judged_tag ActivationDate = activation_date
judged_tag CompromiseDate = compromise_date
judged_tag CryptographicAlgorithm = cryptographic_algorithm
judged_tag CryptographicLength = cryptographic_length
judged_tag CryptographicUsageMask = cryptographic_usage_mask
judged_tag DeactivationDate = deactivation_date
judged_tag DestroyDate = destroy_date
judged_tag InitialDate = initial_date
judged_tag Name = name_tag
judged_tag ObjectType = object_type_tag
judged_tag State = state_tag

-- an attribute is asked for where a reference names it, and each one is where there are no references
abbrev pub asks_for : GetAttributesOf → Judged → Bool
asks_for g attribute = not g.is_selective || list_any (λ (tag : ℕ). tag == judged_tag attribute) g.references

-- each attribute that is asked for is shown if the object has it, with all its names
pub record ShowsAsked (g : GetAttributesOf) (c : Card) (shown : Attributes) : Type 0 where
  pub names : asks_for g Name ≡ true → AreAmong shown.names c.given.names
  pub object_type : asks_for g ObjectType ≡ true → IsSome shown.object_type
  pub state : asks_for g State ≡ true → IsSome shown.state
  pub algorithm : asks_for g CryptographicAlgorithm ≡ true → IsSome c.given.algorithm → IsSome shown.algorithm
  pub length : asks_for g CryptographicLength ≡ true → IsSome c.given.length → IsSome shown.length
  pub mask : asks_for g CryptographicUsageMask ≡ true → IsSome c.given.mask → IsSome shown.mask
  pub initial : asks_for g InitialDate ≡ true → IsSome c.dates.initial → IsSome shown.initial
  pub activation : asks_for g ActivationDate ≡ true → IsSome c.dates.activation → IsSome shown.activation
  pub deactivation : asks_for g DeactivationDate ≡ true → IsSome c.dates.deactivation → IsSome shown.deactivation
  pub destroy : asks_for g DestroyDate ≡ true → IsSome c.dates.destroy → IsSome shown.destroy
  pub compromise : asks_for g CompromiseDate ≡ true → IsSome c.dates.compromise → IsSome shown.compromise

-- nothing is required of a destroyed object, nor where the request has items other than the identifier and references
abbrev pub HasRequired : GetAttributesOf → Card → Attributes → Type 0
HasRequired g c shown = live c ≡ true → g.has_others ≡ false → ShowsAsked g c shown

-- Get Attributes succeeds: the rules allow it in the object's state, and what it shows is right and enough
pub record GetsAttributes (rules : RulesOf) (V : List Thing) (before : Option (List ℕ)) (t : ℤ) (asked : GetAttributesOf) (a : GotAttributesOf) (V' : List Thing) (after : Option (List ℕ)) : Type 0 where
  pub id : List ℕ
  pub place : ℕ
  pub object : Thing
  pub about : meant asked.id before ≡ Some id
  pub there : HasObject V id place object
  pub may : allowance rules act.GetAttributes t object.card ≢ Not
  pub own : IsOwnAt object.card t a.attributes
  pub required : HasRequired asked object.card a.attributes
  pub echo : Echoes a.id id
  pub leaves : V' ≡ V
  pub placeholder : after ≡ before

-- against a Get Attributes that is done
abbrev pub GetAttributesReason : RulesOf → List Card → Option (List ℕ) → ℤ → GetAttributesOf → Option GotAttributesOf → Why → Type 0
GetAttributesReason rules cs about t g shown NoSuchObject = card_meant cs about ≡ None
GetAttributesReason rules cs about t g shown WrongState = (c : Card) × (card_meant cs about ≡ Some c) × (allowance rules act.GetAttributes t c ≡ Not)
GetAttributesReason rules cs about t g (Some a) AttributeDiffers = (c : Card) × (card_meant cs about ≡ Some c) × (IsOwnAt c t a.attributes → ⊥)
GetAttributesReason rules cs about t g (Some a) AttributeMissing = (c : Card) × (card_meant cs about ≡ Some c) × (HasRequired g c a.attributes → ⊥)
GetAttributesReason rules cs about t g (Some a) EchoDiffers = Clashes a.id about
GetAttributesReason rules cs about t g shown why = ⊥

-- WHAT SPEAKS AGAINST IT

-- one of the names isn't among those known
abbrev pub has_stranger : List NameOf → List NameOf → Bool
has_stranger known names = list_any (λ (n : NameOf). not (list_any (λ (k : NameOf). same_name k n) known)) names

-- a date is shown that the object doesn't have
abbrev pub is_foreign_date : Option ℤ → Option ℤ → Bool
is_foreign_date None own = false
is_foreign_date (Some date) None = true
is_foreign_date (Some date) (Some own) = not (int_eq date own)

abbrev pub shows_other_value : Card → StateOf → Attributes → Bool
shows_other_value c s shown =
    is_other (λ (x y : ℕ). x == y) shown.object_type (type_number c.kind) || is_other (λ (x y : ℕ). x == y) shown.state (state_number s)
    || clash (λ (x y : ℕ). x == y) shown.algorithm c.given.algorithm || clash int_eq shown.length c.given.length || clash int_eq shown.mask c.given.mask

abbrev pub shows_other_date : Dates → Attributes → Bool
shows_other_date dates shown =
    clash int_eq shown.initial dates.initial || is_foreign_date shown.activation dates.activation || is_foreign_date shown.deactivation dates.deactivation
    || is_foreign_date shown.destroy dates.destroy || is_foreign_date shown.compromise dates.compromise

-- something is shown that isn't the object's in this state
abbrev pub shows_foreign : Card → StateOf → Attributes → Bool
shows_foreign c s shown = has_stranger c.given.names shown.names || shows_other_value c s shown || shows_other_date c.dates shown

-- an attribute is asked for, the object has it, and it isn't shown
abbrev pub leaves_out : GetAttributesOf → Judged → Bool → Bool → Bool
leaves_out g attribute own shown = asks_for g attribute && own && not shown

abbrev pub lacks_name : GetAttributesOf → Card → Attributes → Bool
lacks_name g c shown = asks_for g Name && has_stranger shown.names c.given.names

abbrev pub lacks_value : GetAttributesOf → Card → Attributes → Bool
lacks_value g c shown =
    leaves_out g ObjectType true (is_some shown.object_type) || leaves_out g State true (is_some shown.state)
    || leaves_out g CryptographicAlgorithm (is_some c.given.algorithm) (is_some shown.algorithm)
    || leaves_out g CryptographicLength (is_some c.given.length) (is_some shown.length)
    || leaves_out g CryptographicUsageMask (is_some c.given.mask) (is_some shown.mask)

abbrev pub lacks_date : GetAttributesOf → Dates → Attributes → Bool
lacks_date g dates shown =
    leaves_out g InitialDate (is_some dates.initial) (is_some shown.initial)
    || leaves_out g ActivationDate (is_some dates.activation) (is_some shown.activation)
    || leaves_out g DeactivationDate (is_some dates.deactivation) (is_some shown.deactivation)
    || leaves_out g DestroyDate (is_some dates.destroy) (is_some shown.destroy)
    || leaves_out g CompromiseDate (is_some dates.compromise) (is_some shown.compromise)

-- something that is asked for isn't shown
abbrev pub lacks_asked : GetAttributesOf → Card → Attributes → Bool
lacks_asked g c shown = lacks_name g c shown || lacks_value g c shown || lacks_date g c.dates shown

-- something that is required isn't shown
abbrev pub lacks_required : GetAttributesOf → Card → Attributes → Bool
lacks_required g c shown = live c && not g.has_others && lacks_asked g c shown

-- the same of the object that is meant, where there is one
abbrev pub shows_foreign_of : Option Card → ℤ → Attributes → Bool
shows_foreign_of None t shown = false
shows_foreign_of (Some c) t shown = shows_foreign c (state c.dates t) shown

abbrev pub lacks_required_of : GetAttributesOf → Option Card → Attributes → Bool
lacks_required_of g None shown = false
lacks_required_of g (Some c) shown = lacks_required g c shown

-- the rules exclude it in the state of the object that is meant, where there is one
abbrev pub excludes_attributes : RulesOf → ℤ → Option Card → Bool
excludes_attributes rules t None = false
excludes_attributes rules t (Some c) = is_not (allowance rules act.GetAttributes t c)

-- against a Get Attributes that is done, about this identifier, and shows this if its payload is there
abbrev pub get_attributes_speaks : RulesOf → List Card → Option (List ℕ) → ℤ → GetAttributesOf → Option GotAttributesOf → Why → Bool
get_attributes_speaks rules cs about t g shown NoSuchObject = is_none (card_meant cs about)
get_attributes_speaks rules cs about t g shown WrongState = excludes_attributes rules t (card_meant cs about)
get_attributes_speaks rules cs about t g (Some a) AttributeDiffers = shows_foreign_of (card_meant cs about) t a.attributes
get_attributes_speaks rules cs about t g (Some a) AttributeMissing = lacks_required_of g (card_meant cs about) a.attributes
get_attributes_speaks rules cs about t g (Some a) EchoDiffers = is_other_id a.id about
get_attributes_speaks rules cs about t g shown why = false

-- the reasons against an answer about an object, as they are looked at one after the other
abbrev pub attributes_speak : Card → StateOf → Option (List ℕ) → GetAttributesOf → Option GotAttributesOf → Option Why
attributes_speak c s about g None = None
attributes_speak c s about g (Some a) =
    cond (shows_foreign c s a.attributes) (Some AttributeDiffers)
    (cond (lacks_required g c a.attributes) (Some AttributeMissing) (cond (is_other_id a.id about) (Some EchoDiffers) None))

-- nothing foreign is shown exactly where what is shown is the object's, and nothing is lacking exactly where what is required is shown
abbrev pub AttributesAreDecided : Type 0
AttributesAreDecided =
    ((c : Card) (t : ℤ) (shown : Attributes) → (shows_foreign c (state c.dates t) shown ≡ false) ↔ IsOwnAt c t shown)
    × ((g : GetAttributesOf) (c : Card) (shown : Attributes) → (lacks_required g c shown ≡ false) ↔ HasRequired g c shown)

-- ITS ROW

-- those of an object were in a message or in a declaration
abbrev pub SaysAttributes : GotAttributesOf → Type 0
SaysAttributes a = IsSayableId a.id

abbrev pub seen_attributes : PayloadOf → Option GotAttributesOf
seen_attributes (got_attributes a) = Some a
seen_attributes payload = None

abbrev pub get_attributes_deed : GetAttributesOf → Deed
get_attributes_deed g = record {
  Shown = GotAttributesOf;
  payload = got_attributes;
  seen = seen_attributes;
  says = SaysAttributes;
  subject = on_object g.id act.GetAttributes g.is_selective;
  may_lack = true;
  does = λ rules V before t a V' after. GetsAttributes rules V before t g a V' after;
}

abbrev pub get_attributes_judging : (g : GetAttributesOf) → Judging (get_attributes_deed g)
get_attributes_judging g = record {
  effect = shows_attributes g;
  speaks = λ rules m before t shown why. get_attributes_speaks rules (cards_of m.objects) (meant g.id before) t g shown why;
  means = λ rules m before t shown why. GetAttributesReason rules (cards_of m.objects) (meant g.id before) t g shown why;
  leaves = λ m before t shown. m;
  holds = λ before shown. before;
}
