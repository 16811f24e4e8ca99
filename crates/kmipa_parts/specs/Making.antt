-- How the part of a call is made, item by item. Not promised.
use Rattle.std.specs.Prelude.{◌≡◌, ℕ, Bool, true, false, List, ◌∷◌, take, Option, None}
use Rattle.kmipa_msgs.specs.declared.response.Status.{Status}
use Rattle.kmipa_msgs.specs.declared.response.Status.TheVariants.{Success, Failed, Undone}
use Rattle.kmipa_msgs.specs.Messages.{AskOf, AnswerOf}
use Rattle.kmipa_ops.specs.Effects.{EffectOf, makes, changes, lists as does_list}
use Rattle.kmipa_ops.specs.Row.{SubjectOf, on_object, on_names, on_nothing}
use Rattle.kmipa_parts.specs.Parts.{OwnOf, held_after, may_mean, written, ArePartItems, AllLeaveBe}

-- an item that stays, with the identifier written out
abbrev pub IsStay : List ℕ → AskOf → AnswerOf → AskOf → AnswerOf → Type 0
IsStay id ask answer part shown = (part ≡ record ask { asked = written id ask.asked }) × (shown ≡ answer)

-- the identifier of a new object, unless its item failed
abbrev pub unless_failed : Status → Option (List ℕ) → Option (List ℕ)
unless_failed Success new = new
unless_failed Undone new = new
unless_failed Failed new = None

-- what an operation does adds an object or changes one
abbrev pub adds_or_changes : EffectOf → Bool
adds_or_changes (makes new) = true
adds_or_changes (changes change) = true
adds_or_changes effect = false

-- what it does is to list objects
abbrev pub is_listing : EffectOf → Bool
is_listing (does_list filter) = true
is_listing effect = false

-- the row of an operation, which may touch some objects, whatever it is answered
abbrev pub touches : OwnOf → SubjectOf → EffectOf → Bool
touches own (on_object named act unjudged) effect = may_mean own named
touches own (on_names names) effect = true
touches own on_nothing effect = is_listing effect

-- what the ID Placeholder holds after these items
abbrev pub held_along : Option (List ℕ) → List AskOf → List AnswerOf → Option (List ℕ)
held_along before (ask ∷ asks) (answer ∷ answers) = held_along (held_after before ask.asked answer.status answer.payload) asks answers
held_along before asks answers = before

-- of the first so many items the parts are made
pub record MadeSoFar (own : OwnOf) (asks : List AskOf) (answers : List AnswerOf) (place : ℕ) (held : Option (List ℕ)) (parts : List AskOf) (shown : List AnswerOf) : Type 0 where
  pub items : ArePartItems own None (take place asks) (take place answers) parts shown
  pub holds : held ≡ held_along None (take place asks) (take place answers)

-- the first so many items leave these objects as they are
pub record LeftSoFar (own : OwnOf) (asks : List AskOf) (answers : List AnswerOf) (place : ℕ) (held : Option (List ℕ)) : Type 0 where
  pub items : AllLeaveBe own None (take place asks) (take place answers)
  pub holds : held ≡ held_along None (take place asks) (take place answers)
