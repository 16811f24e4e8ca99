-- The attributes that speak against an answer about an object: those that are required and aren't shown, and those that are shown otherwise than the
-- object has them.
use Rattle.std.specs.Prelude.{◌≡◌, ◌≤◌, ◌&&◌, ◌++◌, ◌+◌, ℤ, pos, Bool, true, false, not, is_none, is_some, if◌then◌else◌, List, [], ◌∷◌, map, filter, length, Option, Some, None, option_map, option_and_then}
use Rattle.std.specs.List.{list_any}
use Rattle.std.specs.Ordering.{int_eq}
use Rattle.kmipa_attrs.specs.ObjectTypes.{type_number}
use Rattle.kmipa_attrs.specs.Sets.{Attributes, NameOf, name_of, no_attributes}
use Rattle.kmipa_object.specs.Life.{state, state_number}
use Rattle.kmipa_msgs.specs.Messages.{AskedOf, GetAttributesOf, GotOf, GotAttributesOf, PayloadOf, got, got_attributes}
use Rattle.kmipa_record.specs.Entries.{EntryOf}
use Rattle.kmipa_ops.specs.Effects.{EffectOf, shows_attributes}
use Rattle.kmipa_ops.specs.Rows.{effect_asked}
use Rattle.kmipa_ops.specs.GetAttributes.{asks_for, seen_attributes}
use Rattle.kmipa_ops.specs.Objects.{same_name}
use Rattle.kmipa_ops.specs.declared.judged.Judged.{Judged}
use Rattle.kmipa_ops.specs.declared.judged.Judged.TheVariants.{Name, ObjectType, CryptographicAlgorithm, CryptographicLength, CryptographicUsageMask, State, InitialDate, ActivationDate, DeactivationDate, DestroyDate, CompromiseDate}
use Rattle.kmipa_check.specs.Described.{dates_in}
use Rattle.kmipa_explain.specs.declared.explanation.Cause.{Cause}
use Rattle.kmipa_explain.specs.declared.explanation.Cause.TheVariants as told
use Rattle.kmipa_explain.specs.declared.held.AttributesHeld.{AttributesHeld}
use Rattle.kmipa_explain.specs.declared.held.ValueHeld.{ValueHeld}

-- ---- attributes

-- all attributes of a declared object at a moment
abbrev pub attributes_at : EntryOf → ℤ → Attributes
attributes_at e t = record e.attributes { object_type = Some (type_number e.kind); state = Some (state_number (state (dates_in e.attributes) t)) }

-- the attributes that have one value each, in the order of their tags
abbrev pub single_attributes : List Judged
single_attributes =
    ActivationDate ∷
    CompromiseDate ∷
    CryptographicAlgorithm ∷
    CryptographicLength ∷
    CryptographicUsageMask ∷
    DeactivationDate ∷
    DestroyDate ∷
    InitialDate ∷
    ObjectType ∷
    State ∷
    []

-- the value that an attribute has among these, a number or seconds since 1970; names have none
abbrev pub value_in : Attributes → Judged → Option ℤ
value_in a ActivationDate = a.activation
value_in a CompromiseDate = a.compromise
value_in a CryptographicAlgorithm = option_map pos a.algorithm
value_in a CryptographicLength = a.length
value_in a CryptographicUsageMask = a.mask
value_in a DeactivationDate = a.deactivation
value_in a DestroyDate = a.destroy
value_in a InitialDate = a.initial
value_in a Name = None
value_in a ObjectType = option_map pos a.object_type
value_in a State = option_map pos a.state

-- what is told of an attribute: its value as it is shown, and as the object has it
abbrev pub value_told : Attributes → Attributes → Judged → ValueHeld
value_told shown own attribute = record { attribute = attribute; shown = value_in shown attribute; held = value_in own attribute }

-- the name isn't among the known ones
abbrev pub is_stranger : List NameOf → NameOf → Bool
is_stranger known name = not (list_any (λ (k : NameOf). same_name k name) known)

-- those of the names that aren't
abbrev pub strangers : List NameOf → List NameOf → List NameOf
strangers known names = filter (is_stranger known) names

-- at least one attribute is told
abbrev pub TellsSome : AttributesHeld → Type 0
TellsSome a = 1 ≤ length a.names.items + length a.values.items

-- ---- AttributeMissing

-- what a Get Attributes asks for
abbrev pub attributes_by : EffectOf → Option GetAttributesOf
attributes_by (shows_attributes asked) = Some asked
attributes_by effect = None

abbrev pub attributes_asked : AskedOf → Option GetAttributesOf
attributes_asked asked = attributes_by (effect_asked asked)

-- the attribute is asked for, the object has it, and it isn't shown
abbrev pub is_missing : GetAttributesOf → Attributes → Attributes → Judged → Bool
is_missing g shown own attribute = asks_for g attribute && is_some (value_in own attribute) && is_none (value_in shown attribute)

abbrev pub missing_names : GetAttributesOf → Attributes → Attributes → List NameOf
missing_names g shown own = if asks_for g Name then strangers shown.names own.names else []

abbrev pub missing_values : GetAttributesOf → Attributes → Attributes → List ValueHeld
missing_values g shown own = map (value_told shown own) (filter (is_missing g shown own) single_attributes)

-- these are exactly the names and the other attributes that are missing
pub record AreAllMissing (g : GetAttributesOf) (shown own : Attributes) (a : AttributesHeld) : Type 0 where
  pub names : map name_of a.names.items ≡ missing_names g shown own
  pub values : a.values.items ≡ missing_values g shown own

-- the object is there, and of those that are asked for exactly these are missing in the answer, at least one
pub record AreMissing (object : Option EntryOf) (t : ℤ) (asked : AskedOf) (payload : Option PayloadOf) (a : AttributesHeld) : Type 0 where
  pub entry : EntryOf
  pub there : object ≡ Some entry
  pub request : GetAttributesOf
  pub is_asked : attributes_asked asked ≡ Some request
  pub answer : GotAttributesOf
  pub is_shown : option_and_then seen_attributes payload ≡ Some answer
  pub all : AreAllMissing request answer.attributes (attributes_at entry t) a
  pub some : TellsSome a

abbrev pub TellsMissing : Option EntryOf → ℤ → AskedOf → Option PayloadOf → Cause → Type 0
TellsMissing object t asked payload (told.Missing a) = AreMissing object t asked payload a
TellsMissing object t asked payload other = ⊥

-- ---- AttributeDiffers

-- an algorithm, a length, a mask or an Initial Date that the object doesn't have isn't judged
abbrev pub may_be_unknown : Judged → Bool
may_be_unknown CryptographicAlgorithm = true
may_be_unknown CryptographicLength = true
may_be_unknown CryptographicUsageMask = true
may_be_unknown InitialDate = true
may_be_unknown attribute = false

-- a value is shown that isn't the object's; where the object has none it depends on whether that one may be unknown
abbrev pub is_apart : Bool → Option ℤ → Option ℤ → Bool
is_apart unknown None own = false
is_apart unknown (Some value) None = not unknown
is_apart unknown (Some value) (Some own) = not (int_eq value own)

abbrev pub is_differing : Attributes → Attributes → Judged → Bool
is_differing shown own attribute = is_apart (may_be_unknown attribute) (value_in shown attribute) (value_in own attribute)

abbrev pub values_apart : Attributes → Attributes → List ValueHeld
values_apart shown own = map (value_told shown own) (filter (is_differing shown own) single_attributes)

-- what a Get shows beside the bytes: the type that it names, and the algorithm and the length of its block
abbrev pub fields_shown : GotOf → Attributes
fields_shown a = record no_attributes { object_type = option_map type_number a.object_type; algorithm = a.block.algorithm; length = a.block.length }

-- and the type of the object in which they stand
abbrev pub shape_shown : GotOf → Attributes
shape_shown a = record no_attributes { object_type = Some (type_number a.shape) }

-- the names that a payload shows of an object and that it doesn't have
abbrev pub names_differing : PayloadOf → Attributes → List NameOf
names_differing (got_attributes a) own = strangers own.names a.attributes.names
names_differing payload own = []

-- the other attributes that it shows otherwise than the object has them; of a Get Object Type may be told twice
abbrev pub values_differing : PayloadOf → Attributes → List ValueHeld
values_differing (got_attributes a) own = values_apart a.attributes own
values_differing (got a) own = values_apart (fields_shown a) own ++ values_apart (shape_shown a) own
values_differing payload own = []

-- these are exactly the names and the other attributes that differ
pub record AreAllDiffering (payload : PayloadOf) (own : Attributes) (a : AttributesHeld) : Type 0 where
  pub names : map name_of a.names.items ≡ names_differing payload own
  pub values : a.values.items ≡ values_differing payload own

-- the object is there, and of what is shown of it exactly these differ, at least one
pub record AreDiffering (object : Option EntryOf) (t : ℤ) (payload : Option PayloadOf) (a : AttributesHeld) : Type 0 where
  pub entry : EntryOf
  pub there : object ≡ Some entry
  pub shown : PayloadOf
  pub is_shown : payload ≡ Some shown
  pub all : AreAllDiffering shown (attributes_at entry t) a
  pub some : TellsSome a

abbrev pub TellsDiffering : Option EntryOf → ℤ → Option PayloadOf → Cause → Type 0
TellsDiffering object t payload (told.Differing a) = AreDiffering object t payload a
TellsDiffering object t payload other = ⊥
