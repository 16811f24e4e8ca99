-- The two sides of a call that can be read, as fills and births find them: a place that is passed waits for nothing, and brings forth nothing.
use Rattle.std.specs.Prelude.{ℤ, List, [], ◌∷◌, map}
use Rattle.kmipa_msgs.specs.Messages.{AskOf, RequestOf, AnswerOf, ResponseOf}
use Rattle.kmipa_msgs.specs.declared.response.Status.TheVariants.{Failed}
use Rattle.kmipa_bundle.specs.Shapes.{some_ask, with_status}
use Rattle.kmipa_places.specs.Calls.{ReadOf}
use Rattle.kmipa_places.specs.Places.{PlaceOf, judged, passed}

abbrev pub asked_at : PlaceOf → AskOf
asked_at (judged ask answer) = ask
asked_at (passed by p) = some_ask

abbrev pub answered_at : PlaceOf → AnswerOf
answered_at (judged ask answer) = answer
answered_at (passed by p) = with_status Failed

-- what was asked, and what was answered, at its places
abbrev pub request_side : ReadOf → RequestOf
request_side c = record { option = c.option; ordered = c.ordered; items = map asked_at c.places }

abbrev pub response_side : ReadOf → ResponseOf
response_side c = record { stamp = c.stamp; items = map answered_at c.places }

-- a judged place with another ask and another answer
abbrev pub place_with : PlaceOf → AskOf → AnswerOf → PlaceOf
place_with (judged _ _) ask answer = judged ask answer
place_with (passed by p) ask answer = passed by p

-- the places, with these asks and answers
abbrev pub places_with : List PlaceOf → List AskOf → List AnswerOf → List PlaceOf
places_with (p ∷ ps) (ask ∷ asks) (answer ∷ answers) = place_with p ask answer ∷ places_with ps asks answers
places_with ps asks answers = []

-- the call at a moment, with this request and this response
abbrev pub completed : ReadOf → ℤ → RequestOf → ResponseOf → ReadOf
completed c moment request response = record c { stamp = moment; places = places_with c.places request.items response.items }
