-- What an operation is to the others: one value says all of it.
use Rattle.std.specs.Prelude.{◌≡◌, ℕ, ℤ, Bool, true, false, List, Option, Some, None, is_some, MatchOption, option_and_then}
use Rattle.kmipa_attrs.specs.Sets.{NameOf}
use Rattle.kmipa_object.specs.Inventory.{Thing}
use Rattle.kmipa_object.specs.declared.allow.Act.{Act}
use Rattle.kmipa_msgs.specs.Messages.{RulesOf, PayloadOf}

-- whom a refusal is judged by: the object that is meant with its row in the table of states (where `unjudged`, no cause is judged), or names
pub data SubjectOf : Type 0 where
  on_object : Option (List ℕ) → Act → (unjudged : Bool) → SubjectOf
  on_names : List NameOf → SubjectOf
  on_nothing : SubjectOf

-- the row in the table of states, and the identifier that is named, of an operation on an object
abbrev pub act_by : SubjectOf → Option Act
act_by (on_object id act unjudged) = Some act
act_by (on_names names) = None
act_by on_nothing = None

abbrev pub id_by : SubjectOf → Option (List ℕ)
id_by (on_object id act unjudged) = id
id_by (on_names names) = None
id_by on_nothing = None

-- an operation whose payloads are read
pub record Deed : Type 1 where
  -- what its answer shows, and the payload that shows it
  pub Shown : Type 0
  pub payload : Shown → PayloadOf
  pub seen : PayloadOf → Option Shown
  -- a message can carry it
  pub says : Shown → Type 0
  -- whom a refusal is judged by
  pub subject : SubjectOf
  -- an Undone answer may leave its payload out
  pub may_lack : Bool
  -- it succeeds, and its answer shows this
  pub does : RulesOf → List Thing → Option (List ℕ) → ℤ → Shown → List Thing → Option (List ℕ) → Type 0

-- operations without effect, whose payloads aren't read, and operations that are not read
pub data Row : Type 1 where
  deed : Deed → Row
  idle : Row
  unknown : Row

abbrev pub seen_in : (d : Deed) → Option PayloadOf → Option d.Shown
seen_in d payload = option_and_then d.seen payload

abbrev pub row_does : Row → RulesOf → List Thing → Option (List ℕ) → ℤ → Option PayloadOf → List Thing → Option (List ℕ) → Type 0
row_does (deed d) rules V before t payload V' after = MatchOption (seen_in d payload) ⊥ (λ shown. d.does rules V before t shown V' after)
row_does idle rules V before t None V' after = (V' ≡ V) × (after ≡ before)
row_does idle rules V before t (Some payload) V' after = ⊥
row_does unknown rules V before t payload V' after = ⊥

abbrev pub row_is_of : Row → PayloadOf → Bool
row_is_of (deed d) payload = is_some (d.seen payload)
row_is_of idle payload = false
row_is_of unknown payload = false

abbrev pub row_may_lack : Row → Bool
row_may_lack (deed d) = d.may_lack
row_may_lack idle = true
row_may_lack unknown = false

abbrev pub row_is_idle : Row → Bool
row_is_idle (deed d) = false
row_is_idle idle = true
row_is_idle unknown = false

abbrev pub row_subject : Row → SubjectOf
row_subject (deed d) = d.subject
row_subject idle = on_nothing
row_subject unknown = on_nothing
