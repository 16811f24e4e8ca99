-- Not promised. The names of live objects, found by their hashes. More may be listed than there is.
use Rattle.std.specs.Prelude.{◌≡◌, ℕ, Bool, true, false, List, Some, slice_get}
use Rattle.kmipa_attrs.specs.Sets.{NameOf}
use Rattle.kmipa_object.specs.Inventory.{live}
use Rattle.kmipa_store.specs.Ledger.{Held}
use Rattle.kmipa_store.specs.Names.{AreListed, Keeps, KeepsOthers}
use Rattle.kmipa_store.specs.declared.live_names.LiveNames.{LiveNames}
use Rattle.kmipa_store.specs.declared.names.Names.{Names}

-- each name of each object without a Destroy Date is listed
pub record CoversLive (names : Names) (objects : List Held) : Type 0 where
  pub all : (p : ℕ) (h : Held) → slice_get objects p ≡ Some h → live h.card ≡ true → AreListed names p h.card.given.names

-- so it is, unless a name found no memory
abbrev pub KnowsLive : LiveNames → List Held → Type 0
KnowsLive l objects = l.is_whole ≡ true → CoversLive l.names objects

-- these names are listed, as ones of the object at this place, unless one found no memory
abbrev pub NotesLive : LiveNames → ℕ → List NameOf → LiveNames → Type 0
NotesLive old place ns new = new.is_whole ≡ true → (old.is_whole ≡ true) × Keeps old.names new.names × AreListed new.names place ns

-- what was listed for the objects at other places still is
abbrev pub ForgetsLive : LiveNames → ℕ → LiveNames → Type 0
ForgetsLive old place new = (new.is_whole ≡ old.is_whole) × KeepsOthers old.names place new.names

-- by whether an object was live, and whether it is
abbrev pub FollowsBy : Bool → Bool → LiveNames → ℕ → List NameOf → LiveNames → Type 0
FollowsBy true true old place ns new = new ≡ old
FollowsBy true false old place ns new = ForgetsLive old place new
FollowsBy false true old place ns new = NotesLive old place ns new
FollowsBy false false old place ns new = new ≡ old

abbrev pub Follows : LiveNames → Bool → ℕ → Held → LiveNames → Type 0
Follows old was_live place h new = FollowsBy was_live (live h.card) old place h.card.given.names new
