-- WHAT A CALL IS: its places, each judged or passed, or what it leaves where it can't be read (profile).
use Rattle.std.specs.Prelude.{◌≡◌, ℕ, suc, ℤ, Bool, List, [], ◌∷◌, map, length, Option, Some, None}
use Rattle.kmipa_ttlv.specs.Tree.{Tree}
use Rattle.kmipa_ttlv.specs.ViewTree.{view_tree}
use Rattle.kmipa_ttlv.specs.declared.view.View.{View}
use Rattle.kmipa_msgs.specs.declared.request.BatchOption.{BatchOption}
use Rattle.kmipa_msgs.specs.Headers.{batch}
use Rattle.kmipa_msgs.specs.Requests.{SaysHeader, is_without_order}
use Rattle.kmipa_msgs.specs.Responses.{SaysStamp}
use Rattle.kmipa_passed.specs.declared.passed.Outcome.{Outcome}
use Rattle.kmipa_passed.specs.Leaving as leaving
use Rattle.kmipa_passed.specs.Leaving.{AsideOf}
use Rattle.kmipa_places.specs.Outcomes.{outcome_at, refuses}
use Rattle.kmipa_places.specs.Places.{PlaceOf, place_of, IsPlace}
use Rattle.kmipa_places.specs.Unread.{IsUnread, is_among, allows_pending, left}
use Rattle.kmipa_places.specs.declared.call.Call.{Call}
use Rattle.kmipa_places.specs.declared.call.Call
use Rattle.kmipa_places.specs.declared.call.Readable.{Readable}
use denote.Bor.{Bor}

-- What the headers say; how many items the request has, and how each answer ends, from which the shapes follow; whether the response refuses the
-- whole message; the places; and the identifiers of the objects that a server may hide from the client, which its messages don't tell.
pub record ReadOf : Type 0 where
  pub option : BatchOption
  pub ordered : Bool
  pub pending : Bool
  pub stamp : ℤ
  pub asks : ℕ
  pub outcomes : List Outcome
  pub refused : Bool
  pub places : List PlaceOf
  pub hidden : List (List ℕ)

abbrev pub read_of : Readable → ReadOf
read_of c = record {
  option = c.option;
  ordered = c.ordered;
  pending = c.pending;
  stamp = c.stamp;
  asks = c.asks;
  outcomes = c.outcomes.items;
  refused = c.refused;
  places = map place_of c.places.items;
  hidden = [];
}

-- a server may hide these from its client
abbrev pub hiding : List (List ℕ) → ReadOf → ReadOf
hiding hidden c = record c { hidden = hidden }

pub data CallOf : Type 0 where
  unread : AsideOf → CallOf
  read : ReadOf → CallOf

abbrev pub call_of : Call → CallOf
call_of (Call.TheVariants.Unread left) = unread (leaving.aside_of left)
call_of (Call.TheVariants.Read c) = read (read_of c)

-- the trees of messages that are lent
abbrev pub message_of : Option (Bor View) → Option Tree
message_of None = None
message_of (Some v) = Some (view_tree v.now)

-- the places from this one on, counted from 1: of each item of a request that has an answer
abbrev pub ArePlaces : Bool → List ℤ → ℕ → List Tree → List Tree → List PlaceOf → Type 0
ArePlaces unordered asides n (t ∷ ts) (u ∷ us) (p ∷ ps) = IsPlace unordered (is_among asides n) t u p × ArePlaces unordered asides (suc n) ts us ps
ArePlaces unordered asides n (t ∷ ts) (u ∷ us) [] = ⊥
ArePlaces unordered asides n (t ∷ ts) [] ps = ps ≡ []
ArePlaces unordered asides n [] us ps = ps ≡ []

pub record IsRead (t u : Tree) (asides : List ℤ) (c : ReadOf) : Type 0 where
  pub readable : IsUnread (Some t) (Some u) asides → ⊥
  pub header : SaysHeader t (record { option = c.option; ordered = c.ordered })
  pub pending : c.pending ≡ allows_pending t
  pub stamp : SaysStamp u c.stamp
  pub asks : c.asks ≡ length (batch t)
  pub outcomes : map outcome_at (batch u) ≡ map Some c.outcomes
  pub refused : c.refused ≡ refuses (batch u)
  pub places : ArePlaces (is_without_order t) asides 1 (batch t) (batch u) c.places
  pub hidden : c.hidden ≡ []

-- THE DEFINITION: by its request and its response, each none where its bytes aren't exactly one item, and by what its turn sets aside
abbrev pub IsCall : Option Tree → Option Tree → List ℤ → CallOf → Type 0
IsCall request response asides (unread aside) = IsUnread request response asides × (aside ≡ left request response)
IsCall (Some t) (Some u) asides (read c) = IsRead t u asides c
IsCall request response asides (read c) = ⊥
