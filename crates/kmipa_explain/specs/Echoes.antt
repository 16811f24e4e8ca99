-- What `EchoDiffers` rests on: what an answer repeats otherwise than it was asked.
use Rattle.std.specs.Prelude.{◌≡◌, ◌≢◌, ◌⊎◌, ℕ, List, Option, Some, None, option_map}
use Rattle.std.specs.String.{string_bytes}
use Rattle.kmipa_attrs.specs.ObjectTypes.{type_number}
use Rattle.kmipa_attrs.specs.declared.object_type.ObjectType.{ObjectType}
use Rattle.kmipa_msgs.specs.Messages.{AskedOf, AskOf, PayloadOf, AnswerOf, created, registered, got, got_attributes, changed}
use Rattle.kmipa_ops.specs.Effects.{EffectOf, makes}
use Rattle.kmipa_ops.specs.Rows.{effect_asked}
use Rattle.kmipa_explain.specs.declared.explanation.Cause.{Cause}
use Rattle.kmipa_explain.specs.declared.explanation.Cause.TheVariants as told
use Rattle.kmipa_explain.specs.declared.held.EchoHeld.{EchoHeld}
use Rattle.kmipa_explain.specs.declared.held.EchoHeld.TheVariants as echo

-- the identifier that the answer of an operation on an object repeats, where it does
abbrev pub id_repeated : Option PayloadOf → Option (List ℕ)
id_repeated (Some (got a)) = a.id
id_repeated (Some (got_attributes a)) = a.id
id_repeated (Some (changed id)) = id
id_repeated payload = None

-- the object type of a new object, as it is asked for, and the number of the one that its answer repeats, where it does
abbrev pub type_by : EffectOf → Option ObjectType
type_by (makes new) = Some new.kind
type_by effect = None

abbrev pub type_asked : AskedOf → Option ObjectType
type_asked asked = type_by (effect_asked asked)

abbrev pub type_repeated : Option PayloadOf → Option ℕ
type_repeated (Some (created x)) = x.object_type
type_repeated (Some (registered x)) = x.object_type
type_repeated payload = None

-- this is asked for and that is repeated, which is something else
pub record IsOther {A : Type 0} (asked repeated : Option A) (x y : A) : Type 0 where
  pub is_asked : asked ≡ Some x
  pub is_repeated : repeated ≡ Some y
  pub apart : x ≢ y

-- the Unique Batch Item ID, the Unique Identifier or the Object Type, as it is asked for or meant, and as it is repeated
abbrev pub IsEcho : Option (List ℕ) → AskOf → AnswerOf → EchoHeld → Type 0
IsEcho meant ask answer (echo.BatchItem asked repeated) = IsOther ask.batch_id answer.batch_id asked.items repeated.items
IsEcho meant ask answer (echo.Identifier id repeated) = IsOther meant (id_repeated answer.payload) (string_bytes id) (string_bytes repeated)
IsEcho meant ask answer (echo.ObjectType kind repeated) =
    IsOther (option_map type_number (type_asked ask.asked)) (type_repeated answer.payload) (type_number kind) repeated

abbrev pub TellsEcho : Option (List ℕ) → AskOf → AnswerOf → Cause → Type 0
TellsEcho meant ask answer (told.Echo e) = IsEcho meant ask answer e
TellsEcho meant ask answer other = ⊥

-- ---- how it is found

-- something is repeated otherwise
abbrev pub Differs : {A : Type 0} → Option A → Option A → Type 0
Differs {A} asked repeated = (x : A) × (y : A) × IsOther asked repeated x y

abbrev pub DiffersSomehow : Option (List ℕ) → AskOf → AnswerOf → Type 0
DiffersSomehow meant ask answer =
    Differs ask.batch_id answer.batch_id
    ⊎ (Differs meant (id_repeated answer.payload) ⊎ Differs (option_map type_number (type_asked ask.asked)) (type_repeated answer.payload))
