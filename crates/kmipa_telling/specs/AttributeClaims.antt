-- What is told in JSON of attributes that are shown otherwise than the object has them, or that are missing.
use Rattle.std.specs.Prelude.{◌≡◌, ℕ, ℤ, Bool, true, false, List, codes, Option, Some, None}
use Rattle.serde_json.specs.Data.{Items, Members, array, no_members, object, string, put}
use Rattle.kmipa_explain.specs.declared.held.AttributesHeld.{AttributesHeld}
use Rattle.kmipa_explain.specs.declared.held.ValueHeld.{ValueHeld}
use Rattle.kmipa_ops.specs.declared.judged.Judged.{Judged}
use Rattle.kmipa_telling.specs.Lists.{AreObjects, objects}
use Rattle.kmipa_telling.specs.Naming.{attribute_name, is_moment, value_name}
use Rattle.kmipa_telling.specs.NamingClaims.{name_members, number_members}
use Rattle.kmipa_telling.specs.Telling.{TellsDate}

-- a value is told: as a moment, else by these members
abbrev pub TellsEither : Bool → ℤ → Members → Members → Type 0
TellsEither true value so told = TellsDate (Some value) no_members told
TellsEither false value so told = told ≡ so

-- a value of an attribute: a moment, or a number with the name that it has
abbrev pub TellsValue : Judged → ℤ → Members → Type 0
TellsValue attribute value told = TellsEither (is_moment attribute) value (number_members value (value_name attribute value)) told

-- a value of an attribute under this name, where there is one
abbrev pub TellsSide : List ℕ → Judged → Option ℤ → Members → Members → Type 0
TellsSide key attribute None before after = after ≡ before
TellsSide key attribute (Some value) before after = (told : Members) × TellsValue attribute value told × (after ≡ put key (object told) before)

-- an attribute: what is shown of it, and what the object has
abbrev pub TellsValueHeld : ValueHeld → Members → Type 0
TellsValueHeld v told = (shown : Members) × TellsSide (codes "shown") v.attribute v.shown (put (codes "attribute") (string (attribute_name v.attribute)) no_members) shown
    × TellsSide (codes "held") v.attribute v.held shown told

-- names, and other attributes
abbrev pub TellsAttributes : AttributesHeld → Members → Type 0
TellsAttributes a told = (values : Items) × AreObjects TellsValueHeld a.values.items values
    × (told ≡ put (codes "values") (array values) (put (codes "names") (array (objects name_members a.names.items)) no_members))
