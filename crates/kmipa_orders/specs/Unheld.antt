-- Items that were done on an object that they don't name, while the ID Placeholder was empty (KMIP 2.1, section 6). No inventory allows that. Looked at,
-- not promised.
use Rattle.std.specs.Prelude.{◌≡◌, ◌≢◌, ◌⊎◌, ℕ, Bool, true, false, is_some, List, [], ◌∷◌, Option, Some, None}
use Rattle.kmipa_msgs.specs.declared.response.Status.{Status}
use Rattle.kmipa_msgs.specs.declared.response.Status.TheVariants.{Success, Failed, Undone}
use Rattle.kmipa_msgs.specs.Messages.{AskedOf, AskOf, RequestOf, PayloadOf, AnswerOf, ResponseOf}
use Rattle.kmipa_ops.specs.Row.{SubjectOf, on_object, on_names, on_nothing}
use Rattle.kmipa_ops.specs.Rows.{subject_asked}
use Rattle.kmipa_parts.specs.Parts.{held_after}

-- it is on an object, and names none
abbrev pub is_of_none : SubjectOf → Bool
is_of_none (on_object None act unjudged) = true
is_of_none (on_object (Some id) act unjudged) = false
is_of_none (on_names names) = false
is_of_none on_nothing = false

abbrev pub is_unnamed : AskedOf → Bool
is_unnamed asked = is_of_none (subject_asked asked)

-- it left no payload out: only an Undone answer may
abbrev pub is_whole : Status → Option PayloadOf → Bool
is_whole Success payload = true
is_whole Failed payload = true
is_whole Undone payload = is_some payload

-- the item was done, names no object, and the ID Placeholder is empty
pub record IsUnheld (before : Option (List ℕ)) (ask : AskOf) (answer : AnswerOf) : Type 0 where
  pub empty : before ≡ None
  pub done : answer.status ≢ Failed
  pub unnamed : is_unnamed ask.asked ≡ true

-- one of the items is, those before it taken by place, each of which tells what the ID Placeholder holds behind it
abbrev pub IsUnheldAmong : Option (List ℕ) → List AskOf → List AnswerOf → Type 0
IsUnheldAmong before (ask ∷ asks) (answer ∷ answers) =
    IsUnheld before ask answer
    ⊎ ((is_whole answer.status answer.payload ≡ true) × IsUnheldAmong (held_after before ask.asked answer.status answer.payload) asks answers)
IsUnheldAmong before asks answers = ⊥

-- so it is in a call whose items are taken by place; the ID Placeholder is empty at its start
pub record IsUnheldCall (request : RequestOf) (response : ResponseOf) : Type 0 where
  pub ordered : request.ordered ≡ true
  pub items : IsUnheldAmong None request.items response.items
