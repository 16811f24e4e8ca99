-- WHICH IDENTIFIERS A CALL NAMES, item by item (profile): those in its request, and those in its answer.
use Rattle.std.specs.Prelude.{ℕ, suc, ℤ, Bool, true, false, not, ◌&&◌, if◌then◌else◌, List, [], ◌∷◌, ◌++◌, map, Option, Some, None}
use Rattle.kmipa_msgs.specs.Messages.{PayloadOf, operation_asked, created, registered, located, got, got_attributes, changed}
use Rattle.kmipa_msgs.specs.Named.{id_named}
use Rattle.kmipa_msgs.specs.Operations.{operation_number}
use Rattle.kmipa_passed.specs.Leaving.{AsideOf, these, strangers, all, over}
use Rattle.kmipa_passed.specs.declared.passed.Outcome.{Outcome}
use Rattle.kmipa_passed.specs.declared.passed.Outcome.TheVariants.{Failed}
use Rattle.kmipa_passed.specs.declared.sorts.Sort.{Sort}
use Rattle.kmipa_passed.specs.declared.sorts.Sort.TheVariants.{Looks}
use Rattle.kmipa_places.specs.Places.{PlaceOf, judged, passed}
use Rattle.kmipa_turns.specs.Steps.{StepOf, TakenOf, leaves, takes}
use Rattle.kmipa_unjudged.specs.Told.{NamedOf}
use Rattle.kmipa_unjudged.specs.declared.named.Origin.{Origin}

-- ---- an item

abbrev pub only : Option (List ℕ) → List (List ℕ)
only None = []
only (Some id) = id ∷ []

-- those that its answer tells
abbrev pub ids_told : PayloadOf → List (List ℕ)
ids_told (created r) = r.id ∷ []
ids_told (registered r) = r.id ∷ []
ids_told (located ids) = ids
ids_told (got g) = only g.id
ids_told (got_attributes g) = only g.id
ids_told (changed id) = only id

abbrev pub ids_answered : Option PayloadOf → List (List ℕ)
ids_answered None = []
ids_answered (Some p) = ids_told p

-- of a judged item the identifier that it asks for, and those that its answer tells; of one that isn't judged each text under the tag of an
-- identifier, in its request and in its answer
abbrev pub ids_at : PlaceOf → List (List ℕ)
ids_at (judged ask answer) = only (id_named ask.asked) ++ ids_answered answer.payload
ids_at (passed by p) = p.ask.names ++ p.answer.names

-- the number of the operation that is asked for
abbrev pub operation_at : PlaceOf → ℕ
operation_at (judged ask answer) = operation_number (operation_asked ask.asked)
operation_at (passed by p) = p.asks

-- ---- a call

abbrev pub named_by : Origin → List ℕ → NamedOf
named_by origin id = record { id = id; origin = origin }

abbrev pub origin_at : ℤ → ℕ → PlaceOf → Origin
origin_at call item p = record { call = call; item = item; operation = Some (operation_at p) }

-- an item may have set aside what it names where it isn't judged, hasn't failed, and doesn't only look
abbrev pub may_change : Sort → Outcome → Bool
may_change Looks outcome = false
may_change sort Failed = false
may_change sort outcome = true

abbrev pub is_cause : PlaceOf → Bool
is_cause (judged ask answer) = false
is_cause (passed by p) = may_change p.ask.sort p.answer.outcome

-- what a place names; where these alone count, nothing but of those
abbrev pub named_at : Bool → ℤ → ℕ → PlaceOf → List NamedOf
named_at causes call item p = if causes && not (is_cause p) then [] else map (named_by (origin_at call item p)) (ids_at p)

-- the places from this item on, counted from 1
abbrev pub named_from : Bool → ℤ → ℕ → List PlaceOf → List NamedOf
named_from causes call item [] = []
named_from causes call item (p ∷ ps) = named_at causes call item p ++ named_from causes call (suc item) ps

-- those that may have set something aside, ahead of all
abbrev pub named_among : ℤ → List PlaceOf → List NamedOf
named_among call ps = named_from true call 1 ps ++ named_from false call 1 ps

-- of a call that can't be read those that it sets aside by their names, as the whole call's
abbrev pub ids_left : AsideOf → List (List ℕ)
ids_left (these ids) = ids
ids_left (strangers ids) = ids
ids_left all = []
ids_left over = []

abbrev pub origin_unread : ℤ → Origin
origin_unread call = record { call = call; item = 0; operation = None }

abbrev pub named_taken : ℤ → TakenOf → List NamedOf
named_taken call (leaves left counts) = map (named_by (origin_unread call)) (ids_left left)
named_taken call (takes c places) = named_among call c.places

-- THE DEFINITION
abbrev pub named_in : StepOf → List NamedOf
named_in s = named_taken s.number s.taken
