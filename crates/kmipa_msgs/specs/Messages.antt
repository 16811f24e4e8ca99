-- Messages without where they lie in memory, and what the program's messages mean.
use Rattle.std.specs.Prelude.{ℕ, ℤ, Bool, false, List, [], ◌∷◌, map, Option}
use Rattle.std.specs.Global.{Vec}
use Rattle.std.specs.Option.{option_map}
use Rattle.kmipa_attrs.specs.Filters.{FilterOf, filter_of}
use Rattle.kmipa_attrs.specs.Sets.{Attributes, attributes_of}
use Rattle.kmipa_attrs.specs.declared.object_type.ObjectType.{ObjectType}
use Rattle.kmipa_msgs.specs.declared.key_block.KeyFormat.{KeyFormat}
use Rattle.kmipa_msgs.specs.declared.key_block.KeyBlock.{KeyBlock}
use Rattle.kmipa_msgs.specs.declared.operation.Operation.{Operation}
use Rattle.kmipa_msgs.specs.declared.operation.Operation
use Rattle.kmipa_msgs.specs.declared.request.BatchOption.{BatchOption}
use Rattle.kmipa_msgs.specs.declared.request.Register.{Register}
use Rattle.kmipa_msgs.specs.declared.request.Locate.{Locate}
use Rattle.kmipa_msgs.specs.declared.request.Get.{Get}
use Rattle.kmipa_msgs.specs.declared.request.GetAttributes.{GetAttributes}
use Rattle.kmipa_msgs.specs.declared.request.Activate.{Activate}
use Rattle.kmipa_msgs.specs.declared.request.Destroy.{Destroy}
use Rattle.kmipa_msgs.specs.declared.request.Revoke.{Revoke}
use Rattle.kmipa_msgs.specs.declared.request.Asked.{Asked}
use Rattle.kmipa_msgs.specs.declared.request.Asked
use Rattle.kmipa_msgs.specs.declared.request.Ask.{Ask}
use Rattle.kmipa_msgs.specs.declared.request.Request.{Request}
use Rattle.kmipa_msgs.specs.declared.response.Status.{Status}
use Rattle.kmipa_msgs.specs.declared.response.Registered.{Registered}
use Rattle.kmipa_msgs.specs.declared.response.Located.{Located}
use Rattle.kmipa_msgs.specs.declared.response.Got.{Got}
use Rattle.kmipa_msgs.specs.declared.response.GotAttributes.{GotAttributes}
use Rattle.kmipa_msgs.specs.declared.response.Changed.{Changed}
use Rattle.kmipa_msgs.specs.declared.response.Payload.{Payload}
use Rattle.kmipa_msgs.specs.declared.response.Payload
use Rattle.kmipa_msgs.specs.declared.response.Answer.{Answer}
use Rattle.kmipa_msgs.specs.declared.response.Response.{Response}
use Rattle.kmipa_msgs.specs.declared.rules.Cause.{Cause}
use Rattle.kmipa_msgs.specs.declared.rules.Cause.TheVariants.{NotFound}
use Rattle.kmipa_msgs.specs.declared.rules.Row.{Row}
use Rattle.kmipa_msgs.specs.declared.rules.Rules.{Rules}
use Rattle.kmipa_msgs.specs.declared.rules.Visibility.{Visibility}
use Rattle.kmipa_msgs.specs.declared.rules.Visibility.TheVariants.{Everyone}
use Rattle.kmipa_object.specs.declared.allow.AllowLine.{AllowLine}
use denote.Bor.{Bor}

-- texts and byte strings are lists of their bytes
abbrev pub lent : Bor (List ℕ) → List ℕ
lent s = s.now

abbrev pub maybe_lent : Option (Bor (List ℕ)) → Option (List ℕ)
maybe_lent = option_map lent

-- a key: its form, its bytes, its algorithm and its bits
pub record BlockOf : Type 0 where
  pub format : KeyFormat
  pub material : List ℕ
  pub algorithm : Option ℕ
  pub length : Option ℤ

abbrev pub block_of : KeyBlock → BlockOf
block_of b = record { format = b.format; material = lent b.material; algorithm = b.algorithm; length = b.length }

-- REQUESTS

-- what a Register brings
pub record RegisterOf : Type 0 where
  pub object_type : ObjectType
  pub attributes : Attributes
  pub block : BlockOf

abbrev pub register_of : Register → RegisterOf
register_of r = record { object_type = r.object_type; attributes = attributes_of r.attributes.value; block = block_of r.block }

-- What a Get Attributes asks for: the tags that Attribute References name as Enumerations, whether there is a reference of any type, and
-- whether there is an item that is neither the identifier nor a reference as an Enumeration.
pub record GetAttributesOf : Type 0 where
  pub id : Option (List ℕ)
  pub references : List ℕ
  pub is_selective : Bool
  pub has_others : Bool

abbrev pub get_attributes_of : GetAttributes → GetAttributesOf
get_attributes_of g = record { id = maybe_lent g.id; references = g.references.items; is_selective = g.is_selective; has_others = g.has_others }

-- what a Revoke asks for: Revocation Reason Code is a number
pub record RevokeOf : Type 0 where
  pub id : Option (List ℕ)
  pub code : ℕ

abbrev pub revoke_of : Revoke → RevokeOf
revoke_of r = record { id = maybe_lent r.id; code = r.code }

-- What an item asks for. Where an identifier may be absent, the placeholder is then meant; operations that are not read have their number.
pub data AskedOf : Type 0 where
  creates : Attributes → AskedOf
  registers : RegisterOf → AskedOf
  locates : FilterOf → AskedOf
  gets : Option (List ℕ) → AskedOf
  gets_attributes : GetAttributesOf → AskedOf
  activates : Option (List ℕ) → AskedOf
  revokes : RevokeOf → AskedOf
  destroys : Option (List ℕ) → AskedOf
  idles : ℕ → AskedOf
  does_other : ℕ → AskedOf

abbrev pub locate_of : Locate → FilterOf
locate_of l = filter_of l.filter.value

abbrev pub id_of : Get → Option (List ℕ)
id_of g = maybe_lent g.id

abbrev pub activate_of : Activate → Option (List ℕ)
activate_of a = maybe_lent a.id

abbrev pub destroy_of : Destroy → Option (List ℕ)
destroy_of d = maybe_lent d.id

abbrev pub asked_of : Asked → AskedOf
asked_of (Asked.TheVariants.Create c) = creates (attributes_of c.attributes.value)
asked_of (Asked.TheVariants.Register r) = registers (register_of r)
asked_of (Asked.TheVariants.Locate l) = locates (locate_of l)
asked_of (Asked.TheVariants.Get g) = gets (id_of g)
asked_of (Asked.TheVariants.GetAttributes g) = gets_attributes (get_attributes_of g)
asked_of (Asked.TheVariants.Activate a) = activates (activate_of a)
asked_of (Asked.TheVariants.Revoke r) = revokes (revoke_of r)
asked_of (Asked.TheVariants.Destroy d) = destroys (destroy_of d)
asked_of (Asked.TheVariants.Idle n) = idles n
asked_of (Asked.TheVariants.Other n) = does_other n

-- an item of a request
pub record AskOf : Type 0 where
  pub batch_id : Option (List ℕ)
  pub asked : AskedOf

abbrev pub ask_of : Ask → AskOf
ask_of a = record { batch_id = maybe_lent a.batch_id; asked = asked_of a.asked }

-- the operation that is asked for
abbrev pub operation_asked : AskedOf → Operation
operation_asked (creates a) = Operation.TheVariants.Create
operation_asked (registers r) = Operation.TheVariants.Register
operation_asked (locates q) = Operation.TheVariants.Locate
operation_asked (gets id) = Operation.TheVariants.Get
operation_asked (gets_attributes g) = Operation.TheVariants.GetAttributes
operation_asked (activates id) = Operation.TheVariants.Activate
operation_asked (revokes r) = Operation.TheVariants.Revoke
operation_asked (destroys id) = Operation.TheVariants.Destroy
operation_asked (idles n) = Operation.TheVariants.Idle n
operation_asked (does_other n) = Operation.TheVariants.Other n

-- a request
pub record RequestOf : Type 0 where
  pub option : BatchOption
  pub ordered : Bool
  pub items : List AskOf

abbrev pub asks_of : Vec Ask → List AskOf
asks_of v = map ask_of v.items

abbrev pub request_of : Request → RequestOf
request_of r = record { option = r.option; ordered = r.ordered; items = asks_of r.items }

-- RESPONSES

-- the answer of a Create or a Register
pub record RegisteredOf : Type 0 where
  pub object_type : Option ℕ
  pub id : List ℕ

abbrev pub registered_of : Registered → RegisteredOf
registered_of r = record { object_type = r.object_type; id = lent r.id }

-- the answer of a Locate: the identifiers that it lists
abbrev pub located_of : Located → List (List ℕ)
located_of l = map lent l.ids.items

-- the answer of a Get: the type that it tells, and the type and the block of the object that it shows
pub record GotOf : Type 0 where
  pub object_type : Option ObjectType
  pub id : Option (List ℕ)
  pub shape : ObjectType
  pub block : BlockOf

abbrev pub got_of : Got → GotOf
got_of g = record { object_type = g.object_type; id = maybe_lent g.id; shape = g.shape; block = block_of g.block }

-- the answer of a Get Attributes: the attributes that it shows
pub record GotAttributesOf : Type 0 where
  pub id : Option (List ℕ)
  pub attributes : Attributes

abbrev pub got_attributes_of : GotAttributes → GotAttributesOf
got_attributes_of g = record { id = maybe_lent g.id; attributes = attributes_of g.attributes.value }

abbrev pub changed_of : Changed → Option (List ℕ)
changed_of c = maybe_lent c.id

-- the payload of an answer; an Activate, a Revoke and a Destroy answer an identifier, or nothing
pub data PayloadOf : Type 0 where
  created : RegisteredOf → PayloadOf
  registered : RegisteredOf → PayloadOf
  located : List (List ℕ) → PayloadOf
  got : GotOf → PayloadOf
  got_attributes : GotAttributesOf → PayloadOf
  changed : Option (List ℕ) → PayloadOf

abbrev pub payload_of : Payload → PayloadOf
payload_of (Payload.TheVariants.Create r) = created (registered_of r)
payload_of (Payload.TheVariants.Register r) = registered (registered_of r)
payload_of (Payload.TheVariants.Locate l) = located (located_of l)
payload_of (Payload.TheVariants.Get g) = got (got_of g)
payload_of (Payload.TheVariants.GetAttributes g) = got_attributes (got_attributes_of g)
payload_of (Payload.TheVariants.Change c) = changed (changed_of c)

-- an item of a response
pub record AnswerOf : Type 0 where
  pub operation : Option ℕ
  pub batch_id : Option (List ℕ)
  pub status : Status
  pub reason : Option ℕ
  pub payload : Option PayloadOf

abbrev pub answer_of : Answer → AnswerOf
answer_of a = record {
  operation = a.operation;
  batch_id = maybe_lent a.batch_id;
  status = a.status;
  reason = a.reason;
  payload = option_map payload_of a.payload;
}

-- a response
pub record ResponseOf : Type 0 where
  pub stamp : ℤ
  pub items : List AnswerOf

abbrev pub answers_of : Vec Answer → List AnswerOf
answers_of v = map answer_of v.items

abbrev pub response_of : Response → ResponseOf
response_of r = record { stamp = r.stamp; items = answers_of r.items }

-- RULES

-- a reason and a cause that it may have
pub record RowOf : Type 0 where
  pub reason : ℕ
  pub cause : Cause

abbrev pub row_of : Row → RowOf
row_of r = record { reason = r.reason; cause = r.cause }

-- what a server declares: whether names are unique, the causes of its reasons, its own words for cells of the table of states, and whether
-- clients see the objects of others
pub record RulesOf : Type 0 where
  pub unique_names : Bool
  pub rows : List RowOf
  pub allow_lines : List AllowLine
  pub visibility : Visibility

abbrev pub rules_of : Rules → RulesOf
rules_of r = record { unique_names = r.unique_names; rows = map row_of r.rows.items; allow_lines = r.allow_lines.items; visibility = r.visibility }

-- the rules of a server that declares none: Item Not Found is for what isn't there, and names may be shared
abbrev pub default_rules : RulesOf
default_rules = record { unique_names = false; rows = record { reason = 1; cause = NotFound } ∷ []; allow_lines = []; visibility = Everyone }
