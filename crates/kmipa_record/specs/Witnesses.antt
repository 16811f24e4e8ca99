-- Witnesses: which bytes are one, and what is the first fault of those that are none.
use Rattle.std.specs.Prelude.{◌≡◌, ◌≢◌, ℕ, ℤ, pos, ◌<ℤ◌, List, [], ◌∷◌, ◌++◌, map, All, Option, Some, None, IsSome, option_map, ◌≤◌}
use Rattle.kmipa_ttlv.specs.Tree.{Tree, Trees, structure, scalar, none, more, forest, integer, byte_string, date_time}
use Rattle.kmipa_ttlv.specs.ItemTree.{tree}
use Rattle.kmipa_ttlv.specs.Stream.{Begins}
use Rattle.kmipa_attrs.specs.Tags.{response_payload, attributes_tag}
use Rattle.kmipa_record.specs.Entries.{items_of}
use Rattle.kmipa_record.specs.Files.{FirstFault, IsRightUpTo}
use Rattle.kmipa_record.specs.Marks.{IsCallNumber}
use Rattle.kmipa_record.specs.Tags.{version_tag, call_tag, witness_header_tag, turn_tag, fill_tag, filled_item_tag, answer_tag, place_tag, turn_moment_tag, birth_tag, aside_tag}
use Rattle.kmipa_record.specs.declared.birth.Birth.{Birth}
use Rattle.kmipa_record.specs.declared.fault.RecordKind.{RecordKind}
use Rattle.kmipa_record.specs.declared.fault.RecordKind.TheVariants.{Header, Number, Entry}
use Rattle.kmipa_record.specs.declared.fill.Fill.{Fill}
use Rattle.kmipa_record.specs.declared.turn.Turn.{Turn}
use Rattle.kmipa_record.specs.declared.version.Version.{Version}
use Rattle.kmipa_record.specs.declared.version.Version.TheVariants.{First, Second, Third, Fourth}
use Rattle.kmipa_record.specs.declared.witness.Witness.{Witness}

-- a payload that is put in at an item's place, counted from 1
pub record FillOf : Type 0 where
  pub item : ℤ
  pub payload : Tree

-- attributes that the server itself gives the object that is born at an item's place, counted from 1
pub record BirthOf : Type 0 where
  pub item : ℤ
  pub attributes : Tree

-- What a turn of a witness says: its call, the answer of a call that did not end, the order of places, its moment, the payloads to put in,
-- the attributes to put in, and the places of items that are set aside.
pub record TurnOf : Type 0 where
  pub call : ℤ
  pub answer : Option (List ℕ)
  pub places : List ℤ
  pub moment : Option ℤ
  pub fills : List FillOf
  pub births : List BirthOf
  pub asides : List ℤ

-- the turn that names a call and gives nothing else
abbrev pub bare_turn : ℤ → TurnOf
bare_turn number = record { call = number; answer = None; places = []; moment = None; fills = []; births = []; asides = [] }

-- the fill, the birth and the turn that values of the program are
abbrev pub fill_of : Fill → FillOf
fill_of f = record { item = f.item; payload = tree f.payload }

abbrev pub birth_of : Birth → BirthOf
birth_of b = record { item = b.item; attributes = tree b.attributes }

abbrev pub turn_of : Turn → TurnOf
turn_of t = record {
  call = t.call;
  answer = option_map items_of t.answer;
  places = t.places.items;
  moment = t.moment;
  fills = map fill_of t.fills.items;
  births = map birth_of t.births.items;
  asides = t.asides.items;
}

abbrev pub witness_of : Witness → List TurnOf
witness_of w = map turn_of w.turns.items

-- ---- the items

abbrev pub version_number : Version → ℕ
version_number First = 1
version_number Second = 2
version_number Third = 3
version_number Fourth = 4

abbrev pub witness_header : Version → Tree
witness_header version = structure witness_header_tag (more (scalar version_tag (integer (pos (version_number version)))) none)

abbrev pub call_item : ℤ → Tree
call_item call = scalar call_tag (integer call)

abbrev pub answer_item : List ℕ → Tree
answer_item answer = scalar answer_tag (byte_string answer)

abbrev pub place_item : ℤ → Tree
place_item place = scalar place_tag (integer place)

abbrev pub fill_item : FillOf → Tree
fill_item f = structure fill_tag (more (scalar filled_item_tag (integer f.item)) (more f.payload none))

-- seconds since 1970
abbrev pub moment_item : ℤ → Tree
moment_item moment = scalar turn_moment_tag (date_time moment)

abbrev pub birth_item : BirthOf → Tree
birth_item b = structure birth_tag (more (scalar filled_item_tag (integer b.item)) (more b.attributes none))

abbrev pub aside_place_item : ℤ → Tree
aside_place_item place = scalar aside_tag (integer place)

-- what is there, as a list
abbrev pub listed : {A : Type 0} → Option A → List A
listed None = []
listed (Some x) = x ∷ []

-- the children of a turn: exactly these, in this order
abbrev pub turn_fields : TurnOf → List Tree
turn_fields t =
    call_item t.call ∷
    (map answer_item (listed t.answer) ++ (map place_item t.places ++ (map moment_item (listed t.moment) ++ (map fill_item t.fills ++ (map birth_item t.births ++ map aside_place_item t.asides)))))

-- the item that is the turn's record
abbrev pub turn_item : TurnOf → Tree
turn_item t = structure turn_tag (forest (λ (field : Tree). field) (turn_fields t))

-- ---- versions

-- a Response Payload: a Structure with this tag
pub record IsPayload (payload : Tree) : Type 0 where
  pub children : Trees
  pub is : payload ≡ structure response_payload children

abbrev pub ArePayloads : List FillOf → Type 0
ArePayloads = All (λ fill. IsPayload fill.payload)

-- an Attributes Structure
pub record IsAttributes (attributes : Tree) : Type 0 where
  pub children : Trees
  pub is : attributes ≡ structure attributes_tag children

abbrev pub AreBirths : List BirthOf → Type 0
AreBirths = All (λ birth. IsAttributes birth.attributes)

-- A turn that may stand in a witness of this version: an answer from the second on, places from the third on, and a moment, births and
-- places that are set aside in the fourth.
pub record Admits (version : Version) (t : TurnOf) : Type 0 where
  pub answered : IsSome t.answer → 2 ≤ version_number version
  pub ordered : t.places ≢ [] → 3 ≤ version_number version
  pub timed : IsSome t.moment → version ≡ Fourth
  pub born : t.births ≢ [] → version ≡ Fourth
  pub aside : t.asides ≢ [] → version ≡ Fourth
  pub payloads : ArePayloads t.fills
  pub attributes : AreBirths t.births

-- The bytes are a witness of these turns, in some version.
pub record IsWitness (bytes : List ℕ) (turns : List TurnOf) : Type 0 where
  pub version : Version
  pub spelled : Begins (witness_header version ∷ map turn_item turns) bytes []
  pub admitted : All (Admits version) turns
  pub numbered : All (λ turn. IsCallNumber turn.call) turns

-- ---- the first fault

pub record AreTurns (version : Version) (items : List Tree) : Type 0 where
  pub turns : List TurnOf
  pub are : items ≡ map turn_item turns
  pub admitted : All (Admits version) turns
  pub numbered : All (λ turn. IsCallNumber turn.call) turns

-- no item is faulty at the front of a witness: there is none, or the header and turns of its version
abbrev pub AreRightInWitness : List Tree → Type 0
AreRightInWitness [] = Unit {0}
AreRightInWitness (header ∷ records) = (version : Version) × (header ≡ witness_header version) × AreTurns version records

-- the first test that a record fails in a witness of this version
pub data TurnItemFault (version : Version) (item : Tree) (kind : RecordKind) : Type 0 where
  no_turn : ((turn : TurnOf) → Admits version turn → item ≢ turn_item turn) → kind ≡ Entry → TurnItemFault version item kind
  below_one : (turn : TurnOf) → Admits version turn → item ≡ turn_item turn → turn.call <ℤ pos 1 → kind ≡ Number → TurnItemFault version item kind

abbrev pub WitnessItemFault : List Tree → Tree → RecordKind → Type 0
WitnessItemFault [] item kind = ((version : Version) → item ≢ witness_header version) × (kind ≡ Header)
WitnessItemFault (header ∷ records) item kind = (version : Version) × (header ≡ witness_header version) × TurnItemFault version item kind

abbrev pub WitnessEndFault : List ℕ → List Tree → ℕ → RecordKind → Type 0
WitnessEndFault bytes [] offset kind = (offset ≡ 0) × (kind ≡ Header)
WitnessEndFault bytes (header ∷ records) offset kind = ⊥

abbrev pub WitnessFault : List ℕ → ℕ → RecordKind → Type 0
WitnessFault = FirstFault AreRightInWitness WitnessItemFault WitnessEndFault

abbrev pub IsWitnessUpTo : List ℕ → ℕ → Type 0
IsWitnessUpTo = IsRightUpTo AreRightInWitness
