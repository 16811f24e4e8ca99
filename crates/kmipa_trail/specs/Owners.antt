-- WHOSE OBJECTS THERE ARE, and what is hidden from the clients of calls (profile).
use Rattle.std.specs.Prelude.{◌==◌, ◌||◌, ◌++◌, ◌∷◌, [], not, ℕ, Bool, if◌then◌else◌, List, take_while, bytes_eq, Option, Some, None}
use Rattle.kmipa_msgs.specs.Messages.{PayloadOf}
use Rattle.kmipa_msgs.specs.declared.response.Status.{Status}
use Rattle.kmipa_msgs.specs.declared.response.Status.TheVariants.{Success, Failed, Undone}
use Rattle.kmipa_msgs.specs.declared.rules.Visibility.{Visibility}
use Rattle.kmipa_msgs.specs.declared.rules.Visibility.TheVariants.{Everyone, MayHide, MustHide}
use Rattle.kmipa_record.specs.Declarations.{DeclarationOf}
use Rattle.kmipa_record.specs.Entries.{EntryOf}
use Rattle.kmipa_aside.specs.Ever.{id_made}
use Rattle.kmipa_aside.specs.Sights.{OwnedOf, hidden_from}
use Rattle.kmipa_places.specs.Places.{PlaceOf, judged, passed}
use Rattle.kmipa_turns.specs.Steps.{StepOf, TakenOf, leaves, takes, taken_hiding}

-- ---- whose an object is

-- a blank or a slash
abbrev pub ends_identity : ℕ → Bool
ends_identity b = (b == 0x20) || (b == 0x2F)

abbrev pub is_of_identity : ℕ → Bool
is_of_identity b = not (ends_identity b)

-- the identity of a client: its text up to the first of these
abbrev pub identity : List ℕ → List ℕ
identity client = take_while is_of_identity client

-- ---- at the start: as it is declared. An object without an owner is everyone's

abbrev pub owned_by : List ℕ → Option (List ℕ) → List OwnedOf
owned_by id None = []
owned_by id (Some client) = record { id = id; owner = identity client } ∷ []

abbrev pub owners_declared : List EntryOf → List OwnedOf
owners_declared [] = []
owners_declared (e ∷ es) = owned_by e.id e.owner ++ owners_declared es

-- ---- behind a call: a new object is the one's whose call made it

abbrev pub id_kept : Option (List ℕ) → List (List ℕ)
id_kept None = []
id_kept (Some id) = id ∷ []

-- what is undone isn't made
abbrev pub born_by : Status → Option PayloadOf → List (List ℕ)
born_by Success payload = id_kept (id_made payload)
born_by Failed payload = []
born_by Undone payload = []

abbrev pub born_at : PlaceOf → List (List ℕ)
born_at (judged ask answer) = born_by answer.status answer.payload
born_at (passed by p) = []

abbrev pub births_at : List PlaceOf → List (List ℕ)
births_at [] = []
births_at (p ∷ ps) = born_at p ++ births_at ps

abbrev pub births_in : TakenOf → List (List ℕ)
births_in (leaves left counts) = []
births_in (takes c places) = births_at c.places

-- the others: without this one
abbrev pub disowned : List ℕ → List OwnedOf → List OwnedOf
disowned id [] = []
disowned id (o ∷ os) = if bytes_eq id o.id then disowned id os else o ∷ disowned id os

abbrev pub owners_with : List ℕ → List OwnedOf → List (List ℕ) → List OwnedOf
owners_with me owners [] = owners
owners_with me owners (id ∷ ids) = owners_with me (disowned id owners ++ record { id = id; owner = me } ∷ []) ids

abbrev pub owners_made : List OwnedOf → StepOf → List OwnedOf
owners_made owners s = owners_with (identity s.client) owners (births_in s.taken)

-- ---- where each client sees every object, none is anyone's

abbrev pub owners_at_first : Visibility → List EntryOf → List OwnedOf
owners_at_first Everyone entries = []
owners_at_first MayHide entries = owners_declared entries
owners_at_first MustHide entries = owners_declared entries

abbrev pub owners_behind : Visibility → List OwnedOf → StepOf → List OwnedOf
owners_behind Everyone owners s = owners
owners_behind MayHide owners s = owners_made owners s
owners_behind MustHide owners s = owners_made owners s

-- ---- THE DEFINITION: the steps, one behind the other, each with what is hidden from its client: the objects of others. What the call itself makes isn't

abbrev pub step_hiding : List (List ℕ) → StepOf → StepOf
step_hiding hidden s = record s { taken = taken_hiding hidden s.taken }

-- a step, by whose the objects are behind it
abbrev pub step_seen : List OwnedOf → StepOf → StepOf
step_seen owners s = step_hiding (hidden_from (identity s.client) owners) s

abbrev pub steps_seen : Visibility → List OwnedOf → List StepOf → List StepOf
steps_seen v owners [] = []
steps_seen v owners (s ∷ steps) = step_seen (owners_behind v owners s) s ∷ steps_seen v (owners_behind v owners s) steps

abbrev pub in_sight : DeclarationOf → List StepOf → List StepOf
in_sight declared steps = steps_seen declared.settings.visibility (owners_at_first declared.settings.visibility declared.entries) steps
