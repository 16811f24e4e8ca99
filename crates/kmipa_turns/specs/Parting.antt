-- How the two sides of a call are taken apart and put together again. Not promised: `Sides` says what they are.
use Rattle.std.specs.Prelude.{◌≡◌, List, [], ◌∷◌, ◌++◌, map, Option, Some, None, option_map}
use Rattle.kmipa_msgs.specs.Messages.{AskOf, AnswerOf, ask_of, answer_of}
use Rattle.kmipa_places.specs.Places.{PlaceOf, judged, passed, place_of}
use Rattle.kmipa_turns.specs.Sides.{asked_at, answered_at}
use Rattle.kmipa_turns.specs.declared.sides.Sides.{Sides}

-- what was asked, what was answered, and the places themselves that are passed
pub record SidesOf : Type 0 where
  pub asks : List AskOf
  pub answers : List AnswerOf
  pub kept : List (Option PlaceOf)

abbrev pub sides_of : Sides → SidesOf
sides_of s = record { asks = map ask_of s.asks.items; answers = map answer_of s.answers.items; kept = map (option_map place_of) s.kept.items }

abbrev pub kept_at : PlaceOf → Option PlaceOf
kept_at (judged ask answer) = None
kept_at (passed by p) = Some (passed by p)

-- they are the sides of these places
pub record AreSides (places : List PlaceOf) (s : SidesOf) : Type 0 where
  pub asks : s.asks ≡ map asked_at places
  pub answers : s.answers ≡ map answered_at places
  pub kept : s.kept ≡ map kept_at places

-- one more of each
pub record Gains (old : SidesOf) (ask : AskOf) (answer : AnswerOf) (place : Option PlaceOf) (new : SidesOf) : Type 0 where
  pub asks : new.asks ≡ old.asks ++ ask ∷ []
  pub answers : new.answers ≡ old.answers ++ answer ∷ []
  pub kept : new.kept ≡ old.kept ++ place ∷ []

abbrev pub GainsPlace : SidesOf → PlaceOf → SidesOf → Type 0
GainsPlace old place new = Gains old (asked_at place) (answered_at place) (kept_at place) new

-- a place that is passed, or else the judged one
abbrev pub joined_at : Option PlaceOf → AskOf → AnswerOf → PlaceOf
joined_at None ask answer = judged ask answer
joined_at (Some place) ask answer = place

abbrev pub joined : List (Option PlaceOf) → List AskOf → List AnswerOf → List PlaceOf
joined [] asks answers = []
joined (kept ∷ rest) [] answers = []
joined (kept ∷ rest) (ask ∷ asks) [] = []
joined (kept ∷ rest) (ask ∷ asks) (answer ∷ answers) = joined_at kept ask answer ∷ joined rest asks answers
