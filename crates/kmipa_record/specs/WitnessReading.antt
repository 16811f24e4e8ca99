-- How a witness is read turn by turn, and a turn child by child. Not promised.
use Rattle.std.specs.Prelude.{◌≡◌, ◌≢◌, ℕ, ℤ, pos, ◌<ℤ◌, List, [], ◌∷◌, ◌++◌, map, All, Option, None}
use Rattle.kmipa_ttlv.specs.Tree.{Tree, Trees, structure, scalar, none, more, integer}
use Rattle.kmipa_record.specs.Marks.{IsCallNumber}
use Rattle.kmipa_record.specs.Reading.{IsReading}
use Rattle.kmipa_record.specs.declared.fault.RecordKind.{RecordKind}
use Rattle.kmipa_record.specs.declared.fault.RecordKind.TheVariants.{Memory, Entry, Number}
use Rattle.kmipa_record.specs.Tags.{filled_item_tag}
use Rattle.kmipa_record.specs.Witnesses.{FillOf, BirthOf, TurnOf, call_item, answer_item, place_item, moment_item, fill_item, birth_item, aside_place_item, listed, turn_item, witness_header, IsPayload, IsAttributes, Admits}
use Rattle.kmipa_record.specs.declared.version.Version.{Version}

-- the header and these turns were read of the file, and this is left at this place
pub record IsReadSoFar (file : List ℕ) (version : Version) (turns : List TurnOf) (left : List ℕ) (place : ℕ) : Type 0 where
  pub reading : IsReading file (witness_header version ∷ map turn_item turns) left place
  pub admitted : All (Admits version) turns
  pub numbered : All (λ turn. IsCallNumber turn.call) turns

-- the trees, as a list
abbrev pub list_of : Trees → List Tree
list_of none = []
list_of (more t ts) = t ∷ list_of ts

-- ---- the children of a turn, one kind after the other

abbrev pub integer_item : ℕ → ℤ → Tree
integer_item tag number = scalar tag (integer number)

-- an item's place, and what is put in there
abbrev pub placed_item : ℕ → ℤ → Tree → Tree
placed_item tag item held = structure tag (more (scalar filled_item_tag (integer item)) (more held none))

pub record IsStructure (tag : ℕ) (t : Tree) : Type 0 where
  pub children : Trees
  pub is : t ≡ structure tag children

-- the list does not begin with the item of a value
abbrev pub NotAhead : {X : Type 0} → (X → Tree) → List Tree → Type 0
NotAhead {X} item_of items = (x : X) (rest : List Tree) → items ≢ item_of x ∷ rest

-- the items begin with that of the value, if there is one, and else with none of such a value
pub record MayLead {X : Type 0} (item_of : X → Tree) (items : List Tree) (value : Option X) (rest : List Tree) : Type 0 where
  pub are : items ≡ map item_of (listed value) ++ rest
  pub first : value ≡ None → NotAhead item_of items

-- the items begin with those of the values, which are such ones, and no further one is ahead
pub record Leads {X : Type 0} (Is : X → Type 0) (item_of : X → Tree) (items : List Tree) (values : List X) (rest : List Tree) : Type 0 where
  pub are : items ≡ map item_of values ++ rest
  pub each : All Is values
  pub last : (x : X) (more : List Tree) → Is x → rest ≢ item_of x ∷ more

-- any number
abbrev pub IsAny : ℤ → Type 0
IsAny n = Unit {0}

abbrev pub HasPayload : FillOf → Type 0
HasPayload f = IsPayload f.payload

abbrev pub HasAttributes : BirthOf → Type 0
HasAttributes b = IsAttributes b.attributes

-- the children begin with those of the turn
pub record BeginsTurn (fields : List Tree) (t : TurnOf) (rest : List Tree) : Type 0 where
  pub behind_call : List Tree
  pub behind_answer : List Tree
  pub behind_places : List Tree
  pub behind_moment : List Tree
  pub behind_fills : List Tree
  pub behind_births : List Tree
  pub call : fields ≡ call_item t.call ∷ behind_call
  pub answer : MayLead answer_item behind_call t.answer behind_answer
  pub places : Leads IsAny place_item behind_answer t.places behind_places
  pub moment : MayLead moment_item behind_places t.moment behind_moment
  pub fills : Leads HasPayload fill_item behind_moment t.fills behind_fills
  pub births : Leads HasAttributes birth_item behind_fills t.births behind_births
  pub asides : Leads IsAny aside_place_item behind_births t.asides rest

-- why a turn is not put after the others
pub data RefusesTurn (version : Version) (turn : TurnOf) (kind : RecordKind) : Type 0 where
  no_memory : kind ≡ Memory → RefusesTurn version turn kind
  foreign : ¬ (Admits version turn) → kind ≡ Entry → RefusesTurn version turn kind
  low : Admits version turn → turn.call <ℤ pos 1 → kind ≡ Number → RefusesTurn version turn kind
