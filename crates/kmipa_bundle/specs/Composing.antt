-- Lists of deeds: how what is taken along them composes, and what a refusal after them says.
use Rattle.std.specs.Prelude.{◌++◌, ◌∷◌, ℕ, ℤ, List, [], Option}
use Rattle.kmipa_store.specs.Ledger.{Meaning}
use Rattle.kmipa_store.specs.Choices.{Choice, Chooses, IsSound}
use Rattle.kmipa_msgs.specs.Messages.{RulesOf}
use Rattle.kmipa_passed.specs.Leaving.{AsideOf as LeftOf, HeldOf}
use Rattle.kmipa_aside.specs.Explains.{Deed, Explains, Refutes, world}
use Rattle.kmipa_aside.specs.Passed.{DoesUnread}
use Rattle.kmipa_aside.specs.Worlds.{WorldOf}
use Rattle.kmipa_places.specs.Calls.{ReadOf}
use Rattle.kmipa_places.specs.Places.{PlaceOf}
use Rattle.kmipa_bundle.specs.Bundles.{DoesPlace, DoesRead}
use Rattle.kmipa_bundle.specs.Deeds.{ChainOf, TellsSome}
use Rattle.kmipa_bundle.specs.Refusals.{TellsPlace}

-- from some world of the ledger these deeds are done
pub record CanBeDone {A : Type 0} (does : A → Deed) (m : Meaning) (before : HeldOf) (xs : List A) : Type 0 where
  pub choice : Choice
  pub chooses : Chooses m.secrets choice
  pub left : WorldOf
  pub held : HeldOf
  pub chain : ChainOf does xs (world choice m) before left held

-- a place at a moment, where a server may hide these objects, a call that can be read, whose items are taken in this order, or what one leaves that can't be
pub data DeedOf : Type 0 where
  place : List (List ℕ) → ℤ → PlaceOf → DeedOf
  call : ReadOf → Option (List ℕ) → DeedOf
  unread : ℤ → LeftOf → DeedOf

abbrev pub DoesDeed : RulesOf → DeedOf → WorldOf → HeldOf → WorldOf → HeldOf → Type 0
DoesDeed rules (place hidden t p) w before w' after = DoesPlace (record { rules = rules; hidden = hidden }) t p w before w' after
DoesDeed rules (call c order) w before w' after = DoesRead rules c order w before w' after
DoesDeed rules (unread t left) w before w' after = DoesUnread t left w before w' after

-- the bytes that it tells
abbrev pub TellsDeed : DeedOf → List ℕ → Type 0
TellsDeed (place hidden t p) bytes = TellsPlace p bytes
TellsDeed (call c order) bytes = TellsSome TellsPlace c.places bytes
TellsDeed (unread t left) bytes = ⊥

-- a ledger that was led along some deeds, and then along others, was led along both together
abbrev pub DeedsCompose : Type 0
DeedsCompose =
    (rules : RulesOf) (m : Meaning) (before : HeldOf) (xs ys : List DeedOf) (k : Meaning) (between : HeldOf) (n : Meaning) (after : HeldOf)
    → Explains (ChainOf (DoesDeed rules) xs) (TellsSome TellsDeed xs) m before k between → Explains (ChainOf (DoesDeed rules) ys) (TellsSome TellsDeed ys) k between n after
    → Explains (ChainOf (DoesDeed rules) (xs ++ ys)) (TellsSome TellsDeed (xs ++ ys)) m before n after

-- where the ledger was led along some deeds, and no choice allows the next, those are possible, and with it they are not
abbrev pub RefusalsAreExact : Type 0
RefusalsAreExact =
    (rules : RulesOf) (m : Meaning) (before : HeldOf) (xs : List DeedOf) (n : Meaning) (after : HeldOf) (x : DeedOf)
    → Explains (ChainOf (DoesDeed rules) xs) (TellsSome TellsDeed xs) m before n after → IsSound n → Refutes (DoesDeed rules x) n after
    → CanBeDone (DoesDeed rules) m before xs × (CanBeDone (DoesDeed rules) m before (xs ++ x ∷ []) → ⊥)
