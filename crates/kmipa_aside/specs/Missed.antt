-- WHAT A LOCATE NEEDN'T LIST: objects that a server may hide from the client (profile).
use Rattle.std.specs.Prelude.{◌≡◌, ◌&&◌, ◌++◌, ◌∷◌, [], ℕ, ℤ, Bool, true, false, not, if◌then◌else◌, length, List, Option, Some, None}
use Rattle.kmipa_attrs.specs.Filters.{FilterOf}
use Rattle.kmipa_object.specs.Inventory.{Card}
use Rattle.kmipa_object.specs.Life.{state}
use Rattle.kmipa_msgs.specs.Messages.{AskOf, AskedOf, AnswerOf, PayloadOf, answer_of, ask_of, locates, located}
use Rattle.kmipa_msgs.specs.declared.response.Status.{Status}
use Rattle.kmipa_msgs.specs.declared.response.Status.TheVariants.{Success, Failed, Undone}
use Rattle.kmipa_ops.specs.Locate.{is_full, is_listed, must_fit}
use Rattle.kmipa_ops.specs.Objects.{card_meant}
use Rattle.kmipa_aside.specs.Sights.{SightOf}
use Rattle.kmipa_aside.specs.Standing.{StandOf}
use Rattle.kmipa_aside.specs.declared.beside.Beside.{Beside}

-- the object is there, and is to be listed
abbrev pub must_here : FilterOf → ℤ → Option Card → Bool
must_here q t None = false
must_here q t (Some c) = must_fit q (state c.dates t) c

-- and it isn't
abbrev pub is_missed : List Card → ℤ → FilterOf → List (List ℕ) → List ℕ → Bool
is_missed cs t q listed id = must_here q t (card_meant cs (Some id)) && not (is_listed listed id)

-- those of these that are to be listed, and aren't
abbrev pub missed_of : List Card → ℤ → FilterOf → List (List ℕ) → List (List ℕ) → List (List ℕ)
missed_of cs t q listed [] = []
missed_of cs t q listed (id ∷ ids) = if is_missed cs t q listed id then id ∷ missed_of cs t q listed ids else missed_of cs t q listed ids

-- the hidden ones that a Locate misses; none where as many are listed as the maximum
abbrev pub missed_in : List (List ℕ) → StandOf → ℤ → AskedOf → Option PayloadOf → List (List ℕ)
missed_in hidden s t (locates q) (Some (located ids)) = if is_full q.maximum (length ids) then [] else missed_of s.cards t q ids hidden
missed_in hidden s t asked payload = []

abbrev pub missed_by : Status → List (List ℕ) → StandOf → ℤ → AskedOf → Option PayloadOf → List (List ℕ)
missed_by Success hidden s t asked payload = missed_in hidden s t asked payload
missed_by Undone hidden s t asked payload = missed_in hidden s t asked payload
missed_by Failed hidden s t asked payload = []

-- unless judging is over
abbrev pub missed : SightOf → StandOf → ℤ → AskOf → AnswerOf → List (List ℕ)
missed sight s t ask answer = if s.aside.over then [] else missed_by answer.status sight.hidden s t ask.asked answer.payload

-- some are
abbrev pub is_any : List (List ℕ) → Bool
is_any [] = false
is_any (id ∷ ids) = true

-- They count as listed: the list with them is what is judged. As many as the maximum aren't listed, so with them any number may be.
abbrev pub asked_with : AskedOf → AskedOf
asked_with (locates q) = locates (record q { maximum = None })
asked_with asked = asked

abbrev pub payload_with : List (List ℕ) → Option PayloadOf → Option PayloadOf
payload_with more (Some (located ids)) = Some (located (ids ++ more))
payload_with more payload = payload

abbrev pub ask_with : AskOf → AskOf
ask_with ask = record ask { asked = asked_with ask.asked }

abbrev pub answer_with : List (List ℕ) → AnswerOf → AnswerOf
answer_with more answer = record answer { payload = payload_with more answer.payload }

-- it is a Locate with a list
abbrev pub is_list : AskedOf → Option PayloadOf → Bool
is_list (locates q) (Some (located ids)) = true
is_list asked payload = false

-- with these listed too
abbrev pub IsWith : List (List ℕ) → AskOf → AnswerOf → Option Beside → Type 0
IsWith more ask answer None = is_list ask.asked answer.payload ≡ false
IsWith more ask answer (Some b) = (ask_of b.ask ≡ ask_with ask) × (answer_of b.answer ≡ answer_with more answer)

-- with those that it misses, where it misses some
abbrev pub IsMissing : SightOf → StandOf → ℤ → AskOf → AnswerOf → Option Beside → Type 0
IsMissing sight s t ask answer None = is_any (missed sight s t ask answer) ≡ false
IsMissing sight s t ask answer (Some b) =
    (is_any (missed sight s t ask answer) ≡ true) × (ask_of b.ask ≡ ask_with ask) × (answer_of b.answer ≡ answer_with (missed sight s t ask answer) answer)
