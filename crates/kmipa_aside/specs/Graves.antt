-- The body whose identifier a new object has (profile).
use Rattle.std.specs.Prelude.{◌&&◌, ℕ, zero, suc, Bool, false, not, if◌then◌else◌, List, [], ◌∷◌, Option, Some, None, slice_get}
use Rattle.kmipa_object.specs.Inventory.{Card, live, place_of}
use Rattle.kmipa_store.specs.Ledger.{Meaning}
use Rattle.kmipa_msgs.specs.Messages.{AskOf, AskedOf, AnswerOf, PayloadOf, created, creates, registered, registers}
use Rattle.kmipa_msgs.specs.declared.response.Status.{Status}
use Rattle.kmipa_msgs.specs.declared.response.Status.TheVariants.{Success, Failed, Undone}
use Rattle.kmipa_aside.specs.Standing.{StandOf, is_aside}

-- destroyed, as a body is
abbrev pub is_dead : Option Card → Bool
is_dead None = false
is_dead (Some c) = not (live c)

-- the place of the body that has an identifier: of a destroyed object whose identifier is set aside
abbrev pub body_at : StandOf → List ℕ → Option ℕ → Option ℕ
body_at s id None = None
body_at s id (Some place) = if is_aside s id && is_dead (slice_get s.cards place) then Some place else None

abbrev pub body_of : StandOf → Option (List ℕ) → Option ℕ
body_of s None = None
body_of s (Some id) = body_at s id (place_of id s.cards)

-- the identifier of the new object that is asked for, where it was made
abbrev pub new_id : AskedOf → Option PayloadOf → Option (List ℕ)
new_id (creates a) (Some (created x)) = Some x.id
new_id (registers r) (Some (registered x)) = Some x.id
new_id asked payload = None

abbrev pub new_by : Status → AskedOf → Option PayloadOf → Option (List ℕ)
new_by Success asked payload = new_id asked payload
new_by Undone asked payload = new_id asked payload
new_by Failed asked payload = None

-- the place of the body that its new object replaces
abbrev pub grave : StandOf → AskOf → AnswerOf → Option ℕ
grave s ask answer = body_of s (new_by answer.status ask.asked answer.payload)

-- all but the element at a place
abbrev pub without : {X : Type 0} → ℕ → List X → List X
without place [] = []
without zero (x ∷ xs) = xs
without (suc place) (x ∷ xs) = x ∷ without place xs

-- a ledger without the object at a place
abbrev pub lacking : ℕ → Meaning → Meaning
lacking place m = record { objects = without place m.objects; secrets = m.secrets; aside = m.aside }
