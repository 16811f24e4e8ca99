-- What a turn of a witness says of births: the attributes that the server itself gives the objects that a call brings forth (profile). A birth
-- completes the request of its item as a fill completes a response, and the completed request is judged.
use Rattle.std.specs.Prelude.{◌≡◌, ◌≢◌, ℕ, ◌+◌, ℤ, pos, List, length, AllPairs, Contains, slice_get, Some}
use Rattle.std.specs.Option.{option_or}
use Rattle.kmipa_ttlv.specs.Tree.{Tree, Trees, structure, scalar, none, more, tag_of}
use Rattle.kmipa_attrs.specs.Attributes.{SaysSet, SetFault}
use Rattle.kmipa_attrs.specs.Names.{with_names}
use Rattle.kmipa_attrs.specs.Readings.{Says}
use Rattle.kmipa_attrs.specs.Sets.{Attributes}
use Rattle.kmipa_attrs.specs.declared.side.Side.TheVariants.{Client}
use Rattle.kmipa_record.specs.Lines.{own_tag}
use Rattle.kmipa_record.specs.Witnesses.{BirthOf}
use Rattle.kmipa_record.specs.declared.own_attribute.OwnAttribute.{OwnAttribute}
use Rattle.kmipa_msgs.specs.declared.operation.Operation.{Operation}
use Rattle.kmipa_msgs.specs.declared.operation.Operation.TheVariants.{Create, Register}
use Rattle.kmipa_msgs.specs.declared.response.Status.{Status}
use Rattle.kmipa_msgs.specs.declared.response.Status.TheVariants.{Success, Undone}
use Rattle.kmipa_msgs.specs.Operations.{operation_number}
use Rattle.kmipa_msgs.specs.Messages.{AskedOf, creates, registers, AskOf, AnswerOf, RequestOf, ResponseOf, operation_asked}
use Rattle.kmipa_msgs.specs.Wanted.{IsOwn}
use Rattle.kmipa_batch.specs.Calls.{pairs_of}
use Rattle.kmipa_check.specs.Grants.{GrantsOf}
use Rattle.kmipa_check.specs.declared.fault.WitnessKind.{WitnessKind}
use Rattle.kmipa_check.specs.declared.fault.WitnessKind.TheVariants.{BirthNotWanted, BirthForm}

-- ---- where births are wanted

-- the operation brings forth an object
abbrev pub BringsForth : Operation → Type 0
BringsForth Create = Unit {0}
BringsForth Register = Unit {0}
BringsForth operation = ⊥

-- an item with this status was done, even if it was undone later
abbrev pub WasDone : Status → Type 0
WasDone Success = Unit {0}
WasDone Undone = Unit {0}
WasDone status = ⊥

-- what was asked brings forth an object, and the answer says, at its own operation, that it was done
pub record Bears (ask : AskOf) (answer : AnswerOf) : Type 0 where
  pub asks : BringsForth (operation_asked ask.asked)
  pub own : IsOwn (operation_number (operation_asked ask.asked)) answer.operation
  pub done : WasDone answer.status

-- at this place of the call, counted from 0, this was asked and so answered, and it brings forth an object
pub record IsBirthAt (request : RequestOf) (response : ResponseOf) (place : ℕ) (ask : AskOf) (answer : AnswerOf) : Type 0 where
  pub there : slice_get (pairs_of request response) place ≡ Some (ask, answer)
  pub bears : Bears ask answer

-- what was done at this place brings forth an object
abbrev pub IsBirth : RequestOf → ResponseOf → ℕ → Type 0
IsBirth request response place = (ask : AskOf) × (answer : AnswerOf) × IsBirthAt request response place ask answer

-- the number is that of an item that brings forth an object: places are counted from 0, and items from 1
abbrev pub IsBirthWanted : RequestOf → ResponseOf → ℤ → Type 0
IsBirthWanted request response item = (place : ℕ) × (item ≡ pos (place + 1)) × IsBirth request response place

-- each birth is for an item that brings forth an object, and no two are for one item
pub record AreBirthsWanted (request : RequestOf) (response : ResponseOf) (births : List BirthOf) : Type 0 where
  pub each : (birth : BirthOf) → Contains births birth → IsBirthWanted request response birth.item
  pub once : AllPairs (λ (a b : BirthOf). a.item ≢ b.item) births

-- ---- what a birth gives

-- the server itself may give an attribute of this tag
abbrev pub IsGranted : GrantsOf → ℕ → Type 0
IsGranted g tag = (attribute : OwnAttribute) × Contains g.own attribute × (own_tag attribute ≡ tag)

-- it may give each of these
abbrev pub AreGranted : GrantsOf → Trees → Type 0
AreGranted g none = Unit {0}
AreGranted g (more t ts) = IsGranted g (tag_of t) × AreGranted g ts

-- there are some, and it may give each
abbrev pub AreSomeGranted : GrantsOf → Trees → Type 0
AreSomeGranted g none = ⊥
AreSomeGranted g (more t ts) = IsGranted g (tag_of t) × AreGranted g ts

-- the item has children, and the server itself may give each of them
abbrev pub HasGranted : GrantsOf → Tree → Type 0
HasGranted g (structure n ts) = AreSomeGranted g ts
HasGranted g (scalar n s) = ⊥

-- the birth gives these attributes: it says them as a client would, and the server itself may give each
pub record IsBirthOf (g : GrantsOf) (birth : BirthOf) (attributes : Attributes) : Type 0 where
  pub says : Says (SaysSet birth.attributes) (SetFault Client birth.attributes) attributes
  pub granted : HasGranted g birth.attributes

-- the birth gives no attributes that a server may give
abbrev pub IsMisformed : GrantsOf → BirthOf → Type 0
IsMisformed g birth = (attributes : Attributes) → IsBirthOf g birth attributes → ⊥

-- ---- what it makes of a request

-- The attributes of an object for which a client gave some, and the server itself others: the names of both, each once; and of single values
-- that of the birth, or else the client's.
abbrev pub born_with : Attributes → Attributes → Attributes
born_with given birth = record {
  names = with_names given.names birth.names;
  object_type = option_or birth.object_type given.object_type;
  algorithm = option_or birth.algorithm given.algorithm;
  length = option_or birth.length given.length;
  mask = option_or birth.mask given.mask;
  state = option_or birth.state given.state;
  initial = option_or birth.initial given.initial;
  activation = option_or birth.activation given.activation;
  deactivation = option_or birth.deactivation given.deactivation;
  destroy = option_or birth.destroy given.destroy;
  compromise = option_or birth.compromise given.compromise;
}

-- what is asked for with these attributes of a birth
abbrev pub asked_with : AskedOf → Attributes → AskedOf
asked_with (creates a) birth = creates (born_with a birth)
asked_with (registers r) birth = registers (record r { attributes = born_with r.attributes birth })
asked_with asked birth = asked

abbrev pub with_birth : AskOf → Attributes → AskOf
with_birth ask birth = record ask { asked = asked_with ask.asked birth }

-- the birth is for the item at this place
abbrev pub IsBirthFor : BirthOf → ℕ → Type 0
IsBirthFor birth place = birth.item ≡ pos (place + 1)

-- what becomes of the ask at a place: it has the attributes that its birth gives, or stays as it is where there is no birth for it
pub data IsBornAt (g : GrantsOf) (births : List BirthOf) (place : ℕ) (ask full : AskOf) : Type 0 where
  as_asked : ((birth : BirthOf) → Contains births birth → IsBirthFor birth place → ⊥) → full ≡ ask → IsBornAt g births place ask full
  completed : (birth : BirthOf) → Contains births birth → IsBirthFor birth place → (attributes : Attributes) → IsBirthOf g birth attributes
      → full ≡ with_birth ask attributes → IsBornAt g births place ask full

-- the full request is the other one with the births put in
pub record IsBorn (g : GrantsOf) (request : RequestOf) (response : ResponseOf) (births : List BirthOf) (full : RequestOf) : Type 0 where
  pub wanted : AreBirthsWanted request response births
  pub option : full.option ≡ request.option
  pub ordered : full.ordered ≡ request.ordered
  pub counted : length full.items ≡ length request.items
  pub each : (place : ℕ) (ask born : AskOf) → slice_get request.items place ≡ Some ask → slice_get full.items place ≡ Some born
      → IsBornAt g births place ask born

-- one of the births gives no attributes that the server may give
pub record SomeMisformed (g : GrantsOf) (births : List BirthOf) : Type 0 where
  pub birth : BirthOf
  pub one : Contains births birth
  pub misformed : IsMisformed g birth

-- the first fault of births: one that isn't wanted; else one without the form
pub data BirthFault (g : GrantsOf) (request : RequestOf) (response : ResponseOf) (births : List BirthOf) (kind : WitnessKind) : Type 0 where
  not_wanted : (AreBirthsWanted request response births → ⊥) → kind ≡ BirthNotWanted → BirthFault g request response births kind
  formless : AreBirthsWanted request response births → SomeMisformed g births → kind ≡ BirthForm → BirthFault g request response births kind
