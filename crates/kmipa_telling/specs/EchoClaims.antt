-- What is told in JSON of what an answer repeats otherwise than it was asked.
use Rattle.std.specs.Prelude.{ℕ, List, codes}
use Rattle.std.specs.String.{string_bytes}
use Rattle.hex.specs.Hex.{encode_lower}
use Rattle.serde_json.specs.Data.{Members, no_members, object, string, put}
use Rattle.kmipa_attrs.specs.ObjectTypes.{type_number}
use Rattle.kmipa_attrs.specs.declared.object_type.ObjectType.{ObjectType as TypeOf}
use Rattle.kmipa_explain.specs.declared.held.EchoHeld.{EchoHeld}
use Rattle.kmipa_explain.specs.declared.held.EchoHeld.TheVariants.{BatchItem, Identifier, ObjectType}
use Rattle.kmipa_telling.specs.NamingClaims.{type_members}

-- two texts
abbrev pub texts_members : List ℕ → List ℕ → Members
texts_members asked answered = put (codes "answered") (string answered) (put (codes "asked") (string asked) no_members)

-- two byte strings, in hexadecimal digits
abbrev pub digits_members : List ℕ → List ℕ → Members
digits_members asked answered = texts_members (encode_lower asked) (encode_lower answered)

-- two Object Types
abbrev pub types_members : TypeOf → ℕ → Members
types_members asked answered = put (codes "answered") (object (type_members answered)) (put (codes "asked") (object (type_members (type_number asked))) no_members)

-- as it was asked, and as it is answered, under the name of what is repeated
abbrev pub echo_members : EchoHeld → Members
echo_members (BatchItem asked answered) = put (codes "batch_item") (object (digits_members asked.items answered.items)) no_members
echo_members (Identifier meant answered) = put (codes "identifier") (object (texts_members (string_bytes meant) (string_bytes answered))) no_members
echo_members (ObjectType asked answered) = put (codes "object_type") (object (types_members asked answered)) no_members
