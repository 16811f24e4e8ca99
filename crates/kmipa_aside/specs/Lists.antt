-- A Locate whose answer lists identifiers that are set aside: these count as listed, and nothing else is judged of them (profile).
use Rattle.std.specs.Prelude.{◌+◌, ◌-ℤ◌, ℕ, ℤ, pos, Bool, false, if◌then◌else◌, List, [], ◌∷◌, Option, Some, None}
use Rattle.std.specs.List.{list_any}
use Rattle.kmipa_msgs.specs.Messages.{AskOf, AskedOf, locates, AnswerOf, PayloadOf, located}
use Rattle.kmipa_msgs.specs.declared.response.Status.{Status}
use Rattle.kmipa_msgs.specs.declared.response.Status.TheVariants.{Success, Failed, Undone}
use Rattle.kmipa_aside.specs.Standing.{StandOf, is_aside}

-- one of these is set aside
abbrev pub any_aside : StandOf → List (List ℕ) → Bool
any_aside s ids = list_any (λ (id : List ℕ). is_aside s id) ids

-- a Locate lists one that is
abbrev pub lists_aside : StandOf → AskedOf → Option PayloadOf → Bool
lists_aside s (locates q) (Some (located ids)) = any_aside s ids
lists_aside s asked payload = false

abbrev pub touched_by : Status → StandOf → AskedOf → Option PayloadOf → Bool
touched_by Success s asked payload = lists_aside s asked payload
touched_by Undone s asked payload = lists_aside s asked payload
touched_by Failed s asked payload = false

abbrev pub is_touched : StandOf → AskOf → AnswerOf → Bool
is_touched s ask answer = touched_by answer.status s ask.asked answer.payload

-- those that aren't
abbrev pub judged_of : StandOf → List (List ℕ) → List (List ℕ)
judged_of s [] = []
judged_of s (id ∷ ids) = if is_aside s id then judged_of s ids else id ∷ judged_of s ids

-- so many are
abbrev pub count_aside : StandOf → List (List ℕ) → ℕ
count_aside s [] = 0
count_aside s (id ∷ ids) = if is_aside s id then 1 + count_aside s ids else count_aside s ids

-- how many may be listed beside them
abbrev pub lowered : Option ℤ → ℕ → Option ℤ
lowered None count = None
lowered (Some most) count = Some (most -ℤ pos count)

-- the rest of what is asked and answered
abbrev pub asked_beside : StandOf → AskedOf → Option PayloadOf → AskedOf
asked_beside s (locates q) (Some (located ids)) = locates (record q { maximum = lowered q.maximum (count_aside s ids) })
asked_beside s asked payload = asked

abbrev pub payload_beside : StandOf → Option PayloadOf → Option PayloadOf
payload_beside s (Some (located ids)) = Some (located (judged_of s ids))
payload_beside s payload = payload

abbrev pub ask_beside : StandOf → AskOf → AnswerOf → AskOf
ask_beside s ask answer = record ask { asked = asked_beside s ask.asked answer.payload }

abbrev pub answer_beside : StandOf → AnswerOf → AnswerOf
answer_beside s answer = record answer { payload = payload_beside s answer.payload }
