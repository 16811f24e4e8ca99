-- What an operation does where it is done: it makes an object, changes one, lists some, or only looks at one (KMIP 2.1, section 6.1).
use Rattle.std.specs.Prelude.{ℕ, List, Option, None, option_map}
use Rattle.kmipa_attrs.specs.Filters.{FilterOf}
use Rattle.kmipa_attrs.specs.Sets.{Attributes}
use Rattle.kmipa_attrs.specs.declared.object_type.ObjectType.{ObjectType}
use Rattle.kmipa_msgs.specs.Messages.{BlockOf, GetAttributesOf}
use Rattle.kmipa_ops.specs.declared.change.Change.{Change}

-- a new object as it is asked for: its type, the attributes that are given with it, and the Key Block that brings its bytes, if one does
pub record NewOf : Type 0 where
  pub kind : ObjectType
  pub attributes : Attributes
  pub block : Option BlockOf

-- A new object comes; the object that is meant changes; the objects that fit are listed; bytes of the object that is meant are shown, or those of its
-- attributes that are asked for. Or nothing is done, and the payloads aren't read; or the operation is not read.
pub data EffectOf : Type 0 where
  makes : NewOf → EffectOf
  changes : Change → EffectOf
  lists : FilterOf → EffectOf
  shows_bytes : EffectOf
  shows_attributes : GetAttributesOf → EffectOf
  does_nothing : EffectOf
  is_unread : EffectOf

-- the bytes that the ask brings
abbrev pub brought_by : EffectOf → Option (List ℕ)
brought_by (makes new) = option_map (λ (b : BlockOf). b.material) new.block
brought_by (changes change) = None
brought_by (lists filter) = None
brought_by shows_bytes = None
brought_by (shows_attributes asked) = None
brought_by does_nothing = None
brought_by is_unread = None
