-- What stands in the way of a new object: an identifier or a name that an object has already.
use Rattle.std.specs.Prelude.{◌≡◌, ◌&&◌, Bool, true, List, [], ℕ, find, Option, Some, None, is_none, is_some, Contains}
use Rattle.std.specs.List.{list_any}
use Rattle.std.specs.String.{string_bytes}
use Rattle.kmipa_attrs.specs.Names.{same_name}
use Rattle.kmipa_attrs.specs.Sets.{NameOf, name_of}
use Rattle.kmipa_msgs.specs.Messages.{AskedOf}
use Rattle.kmipa_ops.specs.Effects.{EffectOf}
use Rattle.kmipa_ops.specs.Effects as op
use Rattle.kmipa_ops.specs.Rows.{effect_asked}
use Rattle.kmipa_record.specs.Declarations.{DeclarationOf}
use Rattle.kmipa_record.specs.Entries.{EntryOf}
use Rattle.kmipa_explain.specs.Items.{makes_object}
use Rattle.kmipa_explain.specs.declared.explanation.Cause.{Cause}
use Rattle.kmipa_explain.specs.declared.explanation.Cause.TheVariants as told

-- ---- IdentifierTaken

-- the answer gives this identifier, which is the one that is meant, to a new object, and an object has it, destroyed or not
pub record IsTaken (held : DeclarationOf) (meant : Option (List ℕ)) (asked : AskedOf) (id : List ℕ) : Type 0 where
  pub makes : makes_object asked ≡ true
  pub given : meant ≡ Some id
  pub object : EntryOf
  pub is_held : Contains held.entries object
  pub has_it : object.id ≡ id

abbrev pub TellsIdentifier : DeclarationOf → Option (List ℕ) → AskedOf → Cause → Type 0
TellsIdentifier held meant asked (told.Identifier id) = IsTaken held meant asked (string_bytes id)
TellsIdentifier held meant asked other = ⊥

-- ---- NameTaken

-- the names that are asked for, of a new object
abbrev pub names_by : EffectOf → List NameOf
names_by (op.makes new) = new.attributes.names
names_by effect = []

abbrev pub names_asked : AskedOf → List NameOf
names_asked asked = names_by (effect_asked asked)

-- names are unique, this one is asked for, and a live object, which has this identifier, has it
pub record IsBorne (held : DeclarationOf) (asked : AskedOf) (name : NameOf) (bearer : List ℕ) : Type 0 where
  pub unique : held.settings.unique_names ≡ true
  pub asked_for : Contains (names_asked asked) name
  pub object : EntryOf
  pub is_held : Contains held.entries object
  pub identifier : object.id ≡ bearer
  pub alive : object.attributes.destroy ≡ None
  pub has_it : Contains object.attributes.names name

abbrev pub TellsName : DeclarationOf → AskedOf → Cause → Type 0
TellsName held asked (told.Name n) = IsBorne held asked (name_of n.name) (string_bytes n.bearer)
TellsName held asked other = ⊥

-- ---- how they are found

-- the first of the names that is among the others
abbrev pub shared : List NameOf → List NameOf → Option NameOf
shared names others = find (λ (n : NameOf). list_any (λ (o : NameOf). same_name o n) others) names

-- an object is live and has one of the names
abbrev pub bears : List NameOf → EntryOf → Bool
bears names e = is_none e.attributes.destroy && is_some (shared names e.attributes.names)
