-- What the children of an Attributes structure say, and what is wrong with them.
use Rattle.std.specs.Prelude.{◌≡◌, ◌≤◌, ◌==◌, ◌||◌, ℕ, ℤ, Bool, false, List, [], ◌∷◌, map, length, Option, Some, None, Result, Ok, Err, codes}
use Rattle.kmipa_ttlv.specs.Tree.{Tree, Trees, structure, scalar, none, more, tag_of}
use Rattle.kmipa_attrs.specs.Tags.{activation_date, compromise_date, cryptographic_algorithm, cryptographic_length, cryptographic_usage_mask, deactivation_date, destroy_date, initial_date, name_tag, object_type_tag, state_tag, unique_identifier}
use Rattle.kmipa_attrs.specs.Sets.{NameOf, Attributes, attributes_of}
use Rattle.kmipa_attrs.specs.Names.{as_name, distinct}
use Rattle.kmipa_attrs.specs.Fields.{first, every, as_integer, as_enumeration, as_date}
use Rattle.kmipa_attrs.specs.Readings.{Says, Lowest, both, map_ok}
use Rattle.kmipa_attrs.specs.declared.fault.AttrFault.{AttrFault}
use Rattle.kmipa_attrs.specs.declared.fault.AttrFault.TheVariants.{WrongType, Repeated, NotForClients, Memory}
use Rattle.kmipa_attrs.specs.declared.side.Side.{Side}
use Rattle.kmipa_attrs.specs.declared.side.Side.TheVariants.{Client, Server}
use Rattle.kmipa_attrs.specs.declared.attr_set.AttrSet.{AttrSet}

abbrev pub attr_number : AttrFault → ℕ
attr_number WrongType = 1
attr_number Repeated = 2
attr_number NotForClients = 3
attr_number Memory = 4

abbrev pub attr_fault_name : AttrFault → List ℕ
attr_fault_name WrongType = codes "WrongType"
attr_fault_name Repeated = codes "Repeated"
attr_fault_name NotForClients = codes "NotForClients"
attr_fault_name Memory = codes "Memory"

-- what the children with the tag hold, as values of one type
unfoldable pub each : {A : Type 0} → (Tree → Option A) → ℕ → Trees → List (Option A)
each how n ts = map how (every n ts)

-- a single-valued attribute: no child with its tag, or one, of its type
abbrev pub Single : {A : Type 0} → List (Option A) → Option A → Type 0
Single held None = held ≡ []
Single held (Some x) = held ≡ Some x ∷ []

-- the names: all children with the tag say one, and each is kept once, in the order of first appearance
abbrev pub SaysNames : List (Option NameOf) → List NameOf → Type 0
SaysNames held names = (said : List NameOf) × ((held ≡ map Some said) × (names ≡ distinct said))

-- one of the children is of another type
abbrev pub SomeWrong : {A : Type 0} → List (Option A) → Type 0
SomeWrong [] = ⊥
SomeWrong (None ∷ held) = Unit {0}
SomeWrong (Some x ∷ held) = SomeWrong held

-- a second child counts as repeated whatever its type
abbrev pub SingleFault : {A : Type 0} → List (Option A) → AttrFault → Type 0
SingleFault held WrongType = SomeWrong held
SingleFault held Repeated = 2 ≤ length held
SingleFault held NotForClients = ⊥
SingleFault held Memory = ⊥

-- what may be there any number of times is wrong by its type alone
abbrev pub TypeFault : {A : Type 0} → List (Option A) → AttrFault → Type 0
TypeFault held WrongType = SomeWrong held
TypeFault held Repeated = ⊥
TypeFault held NotForClients = ⊥
TypeFault held Memory = ⊥

abbrev pub NamesFault : List (Option NameOf) → AttrFault → Type 0
NamesFault held reported = TypeFault held reported

-- a child that no client may give, of whatever type
abbrev pub ClientFault : Side → Option Tree → AttrFault → Type 0
ClientFault Client (Some t) NotForClients = Unit {0}
ClientFault side there fault = ⊥

-- THE DEFINITIONS: a row for each attribute
pub record SaysAttributes (ts : Trees) (a : Attributes) : Type 0 where
  pub names : SaysNames (each as_name name_tag ts) a.names
  pub object_type : Single (each as_enumeration object_type_tag ts) a.object_type
  pub algorithm : Single (each as_enumeration cryptographic_algorithm ts) a.algorithm
  pub length : Single (each as_integer cryptographic_length ts) a.length
  pub mask : Single (each as_integer cryptographic_usage_mask ts) a.mask
  pub state : Single (each as_enumeration state_tag ts) a.state
  pub initial : Single (each as_date initial_date ts) a.initial
  pub activation : Single (each as_date activation_date ts) a.activation
  pub deactivation : Single (each as_date deactivation_date ts) a.deactivation
  pub destroy : Single (each as_date destroy_date ts) a.destroy
  pub compromise : Single (each as_date compromise_date ts) a.compromise

pub data AttributesFault (side : Side) (ts : Trees) (reported : AttrFault) : Type 0 where
  in_names : NamesFault (each as_name name_tag ts) reported → AttributesFault side ts reported
  in_object_type : SingleFault (each as_enumeration object_type_tag ts) reported → AttributesFault side ts reported
  in_algorithm : SingleFault (each as_enumeration cryptographic_algorithm ts) reported → AttributesFault side ts reported
  in_length : SingleFault (each as_integer cryptographic_length ts) reported → AttributesFault side ts reported
  in_mask : SingleFault (each as_integer cryptographic_usage_mask ts) reported → AttributesFault side ts reported
  in_state : SingleFault (each as_enumeration state_tag ts) reported → AttributesFault side ts reported
  in_initial : SingleFault (each as_date initial_date ts) reported → AttributesFault side ts reported
  in_activation : SingleFault (each as_date activation_date ts) reported → AttributesFault side ts reported
  in_deactivation : SingleFault (each as_date deactivation_date ts) reported → AttributesFault side ts reported
  in_destroy : SingleFault (each as_date destroy_date ts) reported → AttributesFault side ts reported
  in_compromise : SingleFault (each as_date compromise_date ts) reported → AttributesFault side ts reported
  of_client_state : ClientFault side (first state_tag ts) reported → AttributesFault side ts reported
  of_client_initial : ClientFault side (first initial_date ts) reported → AttributesFault side ts reported
  of_client_destroy : ClientFault side (first destroy_date ts) reported → AttributesFault side ts reported
  of_client_compromise : ClientFault side (first compromise_date ts) reported → AttributesFault side ts reported
  of_client_identifier : ClientFault side (first unique_identifier ts) reported → AttributesFault side ts reported

-- an item says what its children do, whatever its tag; one that is no structure says nothing
abbrev pub SaysSet : Tree → Attributes → Type 0
SaysSet (structure n ts) a = SaysAttributes ts a
SaysSet (scalar n s) a = ⊥

abbrev pub SetFault : Side → Tree → AttrFault → Type 0
SetFault side (structure n ts) reported = AttributesFault side ts reported
SetFault side (scalar n s) reported = reported ≡ WrongType

-- what the program reads of an item: the set that it says, else the lowest fault; where memory ran out nothing is claimed
abbrev pub ReadsSet : Side → Tree → Result AttrSet AttrFault → Type 0
ReadsSet side t (Ok s) = Says (SaysSet t) (SetFault side t) (attributes_of s)
ReadsSet side t (Err WrongType) = Lowest attr_number (SetFault side t) WrongType
ReadsSet side t (Err Repeated) = Lowest attr_number (SetFault side t) Repeated
ReadsSet side t (Err NotForClients) = Lowest attr_number (SetFault side t) NotForClients
ReadsSet side t (Err Memory) = Unit {0}

-- what the program gives is the view of what is read; where memory ran out nothing is claimed
abbrev pub Gives : {A B : Type 0} → (A → B) → Result A AttrFault → Result B AttrFault → Type 0
Gives view (Ok x) read = read ≡ Ok (view x)
Gives view (Err WrongType) read = read ≡ Err WrongType
Gives view (Err Repeated) read = read ≡ Err Repeated
Gives view (Err NotForClients) read = read ≡ Err NotForClients
Gives view (Err Memory) read = Unit {0}

abbrev pub GivesAttributes : Result AttrSet AttrFault → Result Attributes AttrFault → Type 0
GivesAttributes result read = Gives attributes_of result read

-- the readings
abbrev pub single_step : {A : Type 0} → Result (Option A) AttrFault → Option A → Result (Option A) AttrFault
single_step found None = Err WrongType
single_step (Ok None) (Some x) = Ok (Some x)
single_step (Ok (Some y)) (Some x) = Err Repeated
single_step (Err k) (Some x) = Err k

abbrev pub folded : {A : Type 0} → Result (Option A) AttrFault → List (Option A) → Result (Option A) AttrFault
folded found [] = found
folded found (w ∷ held) = folded (single_step found w) held

abbrev pub single : {A : Type 0} → (Tree → Option A) → ℕ → Trees → Result (Option A) AttrFault
single how n ts = folded (Ok None) (each how n ts)

abbrev pub server_only : Side → Option Tree → Result (Unit {0}) AttrFault
server_only Server there = Ok tt
server_only Client None = Ok tt
server_only Client (Some t) = Err NotForClients

-- a single-valued attribute that no client may give
abbrev pub server_single : {A : Type 0} → (Tree → Option A) → ℕ → Side → Trees → Result (Option A) AttrFault
server_single how n side ts = map_ok (λ p. p.0) (both attr_number (single how n ts) (server_only side (first n ts)))

-- a tree that is to be a name
abbrev pub named : Option NameOf → Result NameOf AttrFault
named None = Err WrongType
named (Some n) = Ok n

abbrev pub all_named : List (Option NameOf) → Result (List NameOf) AttrFault
all_named [] = Ok []
all_named (None ∷ held) = Err WrongType
all_named (Some n ∷ held) = map_ok (λ names. n ∷ names) (all_named held)

abbrev pub names_in : Trees → Result (List NameOf) AttrFault
names_in ts = map_ok distinct (all_named (each as_name name_tag ts))

-- what describes a key: type, algorithm, length, mask
abbrev pub Description : Type 0
Description = (Option ℕ × Option ℕ) × (Option ℤ × Option ℤ)

abbrev pub description_in : Trees → Result Description AttrFault
description_in ts =
    both attr_number
    (both attr_number (single as_enumeration object_type_tag ts) (single as_enumeration cryptographic_algorithm ts))
    (both attr_number (single as_integer cryptographic_length ts) (single as_integer cryptographic_usage_mask ts))

-- what tells the state: State, and Initial, Activation and Deactivation Date
abbrev pub Stages : Type 0
Stages = (Option ℕ × Option ℤ) × (Option ℤ × Option ℤ)

abbrev pub stages_in : Side → Trees → Result Stages AttrFault
stages_in side ts =
    both attr_number
    (both attr_number (server_single as_enumeration state_tag side ts) (server_single as_date initial_date side ts))
    (both attr_number (single as_date activation_date ts) (single as_date deactivation_date ts))

-- how it ended: Destroy and Compromise Date; and no client names the object in its attributes
abbrev pub Ends : Type 0
Ends = (Option ℤ × Option ℤ) × Unit {0}

abbrev pub ends_in : Side → Trees → Result Ends AttrFault
ends_in side ts =
    both attr_number
    (both attr_number (server_single as_date destroy_date side ts) (server_single as_date compromise_date side ts))
    (server_only side (first unique_identifier ts))

-- a tag of what tells of the object's life, or names it
abbrev pub is_of_life : ℕ → Bool
is_of_life tag =
    (tag == state_tag) || (tag == initial_date) || (tag == activation_date) || (tag == deactivation_date) || (tag == destroy_date) || (tag == compromise_date) || (tag == unique_identifier)

-- there is such a child
unfoldable pub tells_of_life : Trees → Bool
tells_of_life none = false
tells_of_life (more t ts) = is_of_life (tag_of t) || tells_of_life ts

abbrev pub Rows : Type 0
Rows = List NameOf × (Description × (Stages × Ends))

abbrev pub rows_in : Side → Trees → Result Rows AttrFault
rows_in side ts = both attr_number (names_in ts) (both attr_number (description_in ts) (both attr_number (stages_in side ts) (ends_in side ts)))

abbrev pub set_at : Rows → Attributes
set_at p = record {
  names = p.0;
  object_type = p.1.0.0.0;
  algorithm = p.1.0.0.1;
  length = p.1.0.1.0;
  mask = p.1.0.1.1;
  state = p.1.1.0.0.0;
  initial = p.1.1.0.0.1;
  activation = p.1.1.0.1.0;
  deactivation = p.1.1.0.1.1;
  destroy = p.1.1.1.0.0;
  compromise = p.1.1.1.0.1;
}

unfoldable pub attributes_in : Side → Trees → Result Attributes AttrFault
attributes_in side ts = map_ok set_at (rows_in side ts)
