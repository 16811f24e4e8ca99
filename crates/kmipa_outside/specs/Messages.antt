-- What is told of the bytes of a message that is outside.
use Rattle.std.specs.Prelude.{◌≡◌, ◌≢◌, ◌<◌, ℕ, List, length, take}
use Rattle.kmipa_ttlv.specs.Flaw.{OuterFlaw, Shows}
use Rattle.kmipa_ttlv.specs.Spelling.{Spells}
use Rattle.kmipa_ttlv.specs.Tree.{Tree, tag_of}
use Rattle.kmipa_ttlv.specs.ViewTree.{view_tree}
use Rattle.kmipa_ttlv.specs.declared.view.View.{View}
use Rattle.kmipa_attrs.specs.Tags.{request_message, response_message}
use Rattle.kmipa_msgs.specs.declared.kind.OutsideKind.{OutsideKind}
use Rattle.kmipa_msgs.specs.Messages.{RequestOf}
use Rattle.kmipa_outside.specs.Requests.{request_fields}
use Rattle.kmipa_outside.specs.Responses.{response_fields}
use Rattle.kmipa_outside.specs.declared.told.FieldTold.{FieldTold}
use Rattle.kmipa_outside.specs.declared.told.MessageTold.{MessageTold}
use Rattle.kmipa_outside.specs.declared.told.MessageTold.TheVariants.{Flaw, Longer, Tagged, Fields}

-- the bytes begin with this item, and more stand behind it
pub record IsLonger (bytes : List ℕ) (size : ℕ) : Type 0 where
  pub item : Tree
  pub spelled : Spells item (take size bytes)
  pub longer : size < length bytes

-- the bytes spell an item with another tag
pub record IsTagged (tag : ℕ) (bytes : List ℕ) (other : ℕ) : Type 0 where
  pub item : Tree
  pub spelled : Spells item bytes
  pub tagged : tag_of item ≡ other
  pub differs : other ≢ tag

-- the bytes spell an item with the message's tag, and these are its fields that aren't as wanted
pub record HasFields (tag : ℕ) (fields : Tree → List FieldTold) (bytes : List ℕ) (told : List FieldTold) : Type 0 where
  pub item : Tree
  pub spelled : Spells item bytes
  pub tagged : tag_of item ≡ tag
  pub are : told ≡ fields item

abbrev pub TellsMessage : ℕ → (Tree → List FieldTold) → List ℕ → MessageTold → Type 0
TellsMessage tag fields bytes (Flaw fault) = Shows fault (OuterFlaw bytes)
TellsMessage tag fields bytes (Longer size) = IsLonger bytes size
TellsMessage tag fields bytes (Tagged other) = IsTagged tag bytes other
TellsMessage tag fields bytes (Fields told) = HasFields tag fields bytes told.items

-- what is told of a request, or of an item of it, for this kind
abbrev pub TellsRequest : List ℕ → ℕ → OutsideKind → MessageTold → Type 0
TellsRequest bytes item k = TellsMessage request_message (λ t. request_fields t item k) bytes

-- the same of the response to a request
abbrev pub TellsResponse : RequestOf → List ℕ → ℕ → OutsideKind → MessageTold → Type 0
TellsResponse request bytes item k = TellsMessage response_message (λ t. response_fields t request item k) bytes

-- ---- how the message is found, not promised

-- the bytes spell this item, which has the message's tag
abbrev pub IsMessage : ℕ → List ℕ → View → Type 0
IsMessage tag bytes view = Spells (view_tree view) bytes × (tag_of (view_tree view) ≡ tag)

-- they don't, and this tells why
abbrev pub IsNone : ℕ → List ℕ → MessageTold → Type 0
IsNone tag bytes (Flaw fault) = Shows fault (OuterFlaw bytes)
IsNone tag bytes (Longer size) = IsLonger bytes size
IsNone tag bytes (Tagged other) = IsTagged tag bytes other
IsNone tag bytes (Fields told) = ⊥
