-- What `LengthImpossible` rests on: bytes that can't be the key of what is asked for, registered or meant.
use Rattle.std.specs.Prelude.{◌≡◌, ◌≢◌, ℕ, true, List, length, Option, Some, None, option_map}
use Rattle.kmipa_attrs.specs.Sets.{Attributes}
use Rattle.kmipa_attrs.specs.declared.object_type.ObjectType.{ObjectType}
use Rattle.kmipa_object.specs.Inventory.{Admitted, Given, admits, given_of, rule_for}
use Rattle.kmipa_object.specs.declared.rule.Rule.{Rule}
use Rattle.kmipa_msgs.specs.Messages.{AskedOf, BlockOf, PayloadOf}
use Rattle.kmipa_record.specs.Entries.{EntryOf}
use Rattle.kmipa_ops.specs.Explains.{shows}
use Rattle.kmipa_ops.specs.Effects.{EffectOf, NewOf, makes, shows_bytes}
use Rattle.kmipa_ops.specs.Register.{either_of}
use Rattle.kmipa_ops.specs.Rows.{effect_asked}
use Rattle.kmipa_explain.specs.declared.explanation.Cause.{Cause}
use Rattle.kmipa_explain.specs.declared.explanation.Cause.TheVariants as told
use Rattle.kmipa_explain.specs.declared.held.LengthHeld.{LengthHeld}

-- the rule doesn't admit the bytes that are seen; or, where none are, it admits no bytes at all
abbrev pub IsRuledOut : Rule → Option (List ℕ) → Type 0
IsRuledOut rule (Some bytes) = admits rule bytes ≢ true
IsRuledOut rule None = (bytes : List ℕ) → Admitted rule bytes → ⊥

-- of an object of this type with these attributes the type, the algorithm and the length are told, and how many bytes are seen; and these, or
-- any, are ruled out
pub record IsNoKey (kind : ObjectType) (given : Given) (seen : Option (List ℕ)) (l : LengthHeld) : Type 0 where
  pub object_type : l.object_type ≡ kind
  pub algorithm : l.algorithm ≡ given.algorithm
  pub bits : l.length ≡ given.length
  pub count : l.bytes ≡ option_map length seen
  pub ruled_out : IsRuledOut (rule_for kind given) seen

-- the answer shows bytes that aren't those of the object
pub record ShowsNoKey (object : Option EntryOf) (payload : Option PayloadOf) (l : LengthHeld) : Type 0 where
  pub entry : EntryOf
  pub is_meant : object ≡ Some entry
  pub shown : List ℕ
  pub are_shown : shows payload ≡ Some shown
  pub no_key : IsNoKey entry.kind (given_of entry.attributes) (Some shown) l

-- the attributes that are asked for with a Key Block, if there is one, as a Register brings them
abbrev pub given_with : Attributes → Option BlockOf → Attributes
given_with a None = a
given_with a (Some block) = record a { algorithm = either_of a.algorithm block.algorithm; length = either_of a.length block.length }

-- A Create asks for a Symmetric Key, whose bytes nobody sees; a Register brings them; a Get shows those of the object that is meant.
abbrev pub IsImpossibleBy : EffectOf → Option EntryOf → Option PayloadOf → LengthHeld → Type 0
IsImpossibleBy (makes new) object payload l =
    IsNoKey new.kind (given_of (given_with new.attributes new.block)) (option_map (λ (b : BlockOf). b.material) new.block) l
IsImpossibleBy shows_bytes object payload l = ShowsNoKey object payload l
IsImpossibleBy effect object payload l = ⊥

abbrev pub IsImpossible : Option EntryOf → AskedOf → Option PayloadOf → LengthHeld → Type 0
IsImpossible object asked payload l = IsImpossibleBy (effect_asked asked) object payload l

abbrev pub TellsLength : Option EntryOf → AskedOf → Option PayloadOf → Cause → Type 0
TellsLength object asked payload (told.Length l) = IsImpossible object asked payload l
TellsLength object asked payload other = ⊥

-- ---- how it is found

-- what is told of a new object
abbrev pub new_length : NewOf → LengthHeld
new_length new = record {
  object_type = new.kind;
  algorithm = (given_with new.attributes new.block).algorithm;
  length = (given_with new.attributes new.block).length;
  bytes = option_map (λ (b : BlockOf). length b.material) new.block;
}

-- of the object that is meant, whose bytes are shown
abbrev pub TellsShown : Option EntryOf → Option PayloadOf → Cause → Type 0
TellsShown object payload (told.Length l) = ShowsNoKey object payload l
TellsShown object payload other = ⊥
