-- What a message can carry: the payloads that some item says.
use Rattle.std.specs.Prelude.{◌<◌, ◌^◌, ◌↔◌, ℕ, ℤ, List, All, IfSome, IsUtf8, Option, FitsSigned}
use Rattle.std.specs.Int.{w32, w64}
use Rattle.kmipa_ttlv.specs.Tree.{Tree, Trees, Scalar, structure, scalar, none, more, big_integer, byte_string}
use Rattle.kmipa_ttlv.specs.Written.{ScalarFits}
use Rattle.kmipa_attrs.specs.Names.{HasNoRepeats}
use Rattle.kmipa_attrs.specs.Sets.{NameOf, Attributes}
use Rattle.kmipa_msgs.specs.declared.operation.Operation.{Operation}
use Rattle.kmipa_msgs.specs.declared.operation.Operation.TheVariants.{Create, Register, Locate, Get, GetAttributes, Activate, Revoke, Destroy}
use Rattle.kmipa_msgs.specs.Messages.{BlockOf, RegisteredOf, GotOf, GotAttributesOf, AskOf, operation_asked, PayloadOf, created, registered, located, got, got_attributes, changed}
use Rattle.kmipa_msgs.specs.Payloads.{SaysPayload}

-- AN ITEM: tags and numbers lie in their ranges, texts are UTF-8, and bytes are numbers below 256 (KMIP 2.1, TTLV Encoding)

abbrev pub HasSmallBytes : Scalar → Type 0
HasSmallBytes (byte_string bytes) = All (λ b. b < 256) bytes
HasSmallBytes (big_integer bytes) = All (λ b. b < 256) bytes
HasSmallBytes _ = Unit {0}

abbrev mutual
  pub IsItem : Tree → Type 0
  IsItem (structure tag ts) = (tag < 2 ^ 24) × AreItems ts
  IsItem (scalar tag s) = (tag < 2 ^ 24) × ScalarFits s × HasSmallBytes s

  pub AreItems : Trees → Type 0
  AreItems none = Unit {0}
  AreItems (more t ts) = IsItem t × AreItems ts

-- some item says this payload as a Response Payload of the kind that is asked for
abbrev pub SomeItemSays : AskOf → PayloadOf → Type 0
SomeItemSays ask p = (t : Tree) × IsItem t × SaysPayload t ask p

-- ITS FIELDS: identifiers are UTF-8, numbers have 32 bits, lengths and masks a sign besides, and dates have 64 bits

abbrev pub IsSayableId : Option (List ℕ) → Type 0
IsSayableId shown = IfSome shown (λ (id : List ℕ). IsUtf8 id)

abbrev pub IsSayableNumber : Option ℕ → Type 0
IsSayableNumber shown = IfSome shown (λ (number : ℕ). number < 2 ^ 32)

abbrev pub IsSayableLength : Option ℤ → Type 0
IsSayableLength shown = IfSome shown (λ (z : ℤ). FitsSigned w32 z)

abbrev pub IsSayableDate : Option ℤ → Type 0
IsSayableDate shown = IfSome shown (λ (z : ℤ). FitsSigned w64 z)

-- a key: bytes, a number, and a length
pub record IsSayableBlock (block : BlockOf) : Type 0 where
  pub material : All (λ b. b < 256) block.material
  pub algorithm : IsSayableNumber block.algorithm
  pub length : IsSayableLength block.length

pub record IsSayableName (n : NameOf) : Type 0 where
  pub value : IsUtf8 n.value
  pub kind : n.kind < 2 ^ 32

-- attributes, of which each name stands once
pub record AreSayable (a : Attributes) : Type 0 where
  pub names : All IsSayableName a.names
  pub once : HasNoRepeats a.names
  pub object_type : IsSayableNumber a.object_type
  pub algorithm : IsSayableNumber a.algorithm
  pub length : IsSayableLength a.length
  pub mask : IsSayableLength a.mask
  pub state : IsSayableNumber a.state
  pub initial : IsSayableDate a.initial
  pub activation : IsSayableDate a.activation
  pub deactivation : IsSayableDate a.deactivation
  pub destroy : IsSayableDate a.destroy
  pub compromise : IsSayableDate a.compromise

-- WHAT EACH PAYLOAD SAYS

abbrev pub SaysNew : RegisteredOf → Type 0
SaysNew x = IsUtf8 x.id × IsSayableNumber x.object_type

abbrev pub SaysListed : List (List ℕ) → Type 0
SaysListed ids = All (λ (id : List ℕ). IsUtf8 id) ids

abbrev pub SaysKey : GotOf → Type 0
SaysKey a = IsSayableId a.id × IsSayableBlock a.block

abbrev pub SaysOwn : GotAttributesOf → Type 0
SaysOwn a = IsSayableId a.id × AreSayable a.attributes

-- the payload is one of the operation, and its fields can be said
abbrev pub IsSayable : Operation → PayloadOf → Type 0
IsSayable Create (created x) = SaysNew x
IsSayable Register (registered x) = SaysNew x
IsSayable Locate (located ids) = SaysListed ids
IsSayable Get (got a) = SaysKey a
IsSayable GetAttributes (got_attributes a) = SaysOwn a
IsSayable Activate (changed id) = IsSayableId id
IsSayable Revoke (changed id) = IsSayableId id
IsSayable Destroy (changed id) = IsSayableId id
IsSayable _ _ = ⊥

-- some item says a payload exactly where it is sayable
abbrev pub SayableIsSaid : Type 0
SayableIsSaid = (ask : AskOf) (p : PayloadOf) → SomeItemSays ask p ↔ IsSayable (operation_asked ask.asked) p
