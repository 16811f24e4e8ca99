-- The story of an object up to a refused item: what happened to the object of its identifier.
use Rattle.std.specs.Prelude.{◌≡◌, ℕ, Bool, true, false, ◌&&◌, bytes_eq, filter, find, List, ◌∷◌, ◌++◌, map, Contains, Option, Some, None, option_map}
use Rattle.std.specs.List.{list_any}
use Rattle.std.specs.String.{string_bytes}
use Rattle.kmipa_msgs.specs.declared.response.Status.{Status}
use Rattle.kmipa_msgs.specs.declared.response.Status.TheVariants.{Success, Failed, Undone}
use Rattle.kmipa_record.specs.Declarations.{DeclarationOf}
use Rattle.kmipa_record.specs.Entries.{EntryOf}
use Rattle.kmipa_check.specs.Steps.{StepOf}
use Rattle.kmipa_check.specs.declared.verdict.Refused.{Refused}
use Rattle.kmipa_explain.specs.Items.{ItemOf, items_of}
use Rattle.kmipa_explain.specs.declared.explanation.Event.{Event}
use Rattle.kmipa_explain.specs.declared.explanation.Story.{Story}

-- an item that was done; where it was undone it was done before
abbrev pub is_done : Status → Bool
is_done Success = true
is_done Undone = true
is_done Failed = false

abbrev pub is_undone : Status → Bool
is_undone Success = false
is_undone Undone = true
is_undone Failed = false

-- an item is about this identifier
abbrev pub is_about : List ℕ → Option (List ℕ) → Bool
is_about id None = false
is_about id (Some other) = bytes_eq other id

-- something happened to the object of this identifier: an item about it was done
abbrev pub happens_to : List ℕ → ItemOf → Bool
happens_to id i = is_done i.status && is_about id i.about

-- an object of this identifier was made
abbrev pub makes_it : List ℕ → ItemOf → Bool
makes_it id i = happens_to id i && i.makes

-- what is told of an item
abbrev pub event_of : ItemOf → Event
event_of i = record { turn = i.turn; call = i.call; item = i.item; stamp = i.stamp; operation = i.operation; undone = is_undone i.status }

-- the declaration has an object of this identifier
abbrev pub is_declared : DeclarationOf → List ℕ → Bool
is_declared declared id = list_any (λ (e : EntryOf). bytes_eq e.id id) declared.entries

-- The items of an order are cut at the refused one: what happened ahead of it to the object of its identifier is told, and the first time behind
-- it that one is made.
pub record IsStory (declared : DeclarationOf) (items : List ItemOf) (r : Refused) (s : Story) : Type 0 where
  pub ahead : List ItemOf
  pub here : ItemOf
  pub behind : List ItemOf
  pub cut : items ≡ ahead ++ here ∷ behind
  pub turn : here.turn ≡ r.turn
  pub item : here.item ≡ r.item
  pub about : here.about ≡ Some (string_bytes s.identifier)
  pub at_start : s.declared ≡ is_declared declared (string_bytes s.identifier)
  pub events : s.events.items ≡ map event_of (filter (happens_to (string_bytes s.identifier)) ahead)
  pub born_later : s.born_later ≡ option_map event_of (find (makes_it (string_bytes s.identifier)) behind)

-- the refused item has no answer, or is about no identifier
abbrev pub HasNoStory : List ItemOf → Refused → Type 0
HasNoStory items r = (here : ItemOf) → Contains items here → here.turn ≡ r.turn → here.item ≡ r.item → here.about ≡ None

-- the story among these items of the object that the refused one is about, where it is about one
abbrev pub TellsStoryIn : DeclarationOf → List ItemOf → Refused → Option Story → Type 0
TellsStoryIn declared items r None = HasNoStory items r
TellsStoryIn declared items r (Some s) = IsStory declared items r s

-- the same among the items of an order
abbrev pub TellsStory : DeclarationOf → List StepOf → Refused → Option Story → Type 0
TellsStory declared order r story = TellsStoryIn declared (items_of order) r story
