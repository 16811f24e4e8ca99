-- Calls that leave the same objects in whatever order they are taken: the bytes of all objects are known at first, no call adds an object,
-- and no two change the same one. Not promised.
use Rattle.std.specs.Prelude.{◌≡◌, ◌<◌, ◌≤◌, ◌⊎◌, ℕ, Bool, true, false, List, [], ◌∷◌, length, slice_get, slice_set, slice_index_or, Option, Some, None}
use Rattle.kmipa_object.specs.Inventory.{Card, place_of}
use Rattle.kmipa_object.specs.declared.life.Material.{Material}
use Rattle.kmipa_object.specs.declared.life.Material.TheVariants.{Gone, Secret}
use Rattle.kmipa_store.specs.Ledger.{Held, Known, Meaning, bytes_at}
use Rattle.kmipa_msgs.specs.declared.response.Status.{Status}
use Rattle.kmipa_msgs.specs.declared.response.Status.TheVariants.{Success, Failed, Undone}
use Rattle.kmipa_msgs.specs.Messages.{AskedOf, AskOf, AnswerOf, RequestOf, ResponseOf}
use Rattle.kmipa_ops.specs.Effects.{EffectOf, changes, does_nothing, lists, shows_attributes, shows_bytes}
use Rattle.kmipa_ops.specs.Row.{SubjectOf, id_by}
use Rattle.kmipa_ops.specs.Rows.{effect_asked, subject_asked}
use Rattle.kmipa_batch.specs.Calls.{pairs_of}
use Rattle.kmipa_check.specs.Steps.{StepOf, order_of}
use Rattle.kmipa_orders.specs.Taken.{step_at}

-- OBJECTS

-- the bytes are gone, or known
abbrev pub IsTold : List Known → Material → Type 0
IsTold secrets Gone = Unit {0}
IsTold secrets (Secret secret) = (bytes : List ℕ) × (bytes_at secrets secret.number ≡ Some (Some bytes))

abbrev pub AreTold : Meaning → Type 0
AreTold m = (place : ℕ) (h : Held) → slice_get m.objects place ≡ Some h → IsTold m.secrets h.material

-- CALLS

-- operations that change no object and add none
abbrev pub reads_by : EffectOf → Bool
reads_by (lists filter) = true
reads_by shows_bytes = true
reads_by (shows_attributes asked) = true
reads_by does_nothing = true
reads_by effect = false

abbrev pub reads_only : AskedOf → Bool
reads_only asked = reads_by (effect_asked asked)

-- nor does an item that failed
abbrev pub is_steady_item : AskedOf → Status → Bool
is_steady_item asked Failed = true
is_steady_item asked Success = reads_only asked
is_steady_item asked Undone = reads_only asked

abbrev pub IsSteadyAt : RequestOf → ResponseOf → ℕ → Type 0
IsSteadyAt request response place = (ask : AskOf) (answer : AnswerOf) → slice_get (pairs_of request response) place ≡ Some (ask, answer) → is_steady_item ask.asked answer.status ≡ true

-- all items from this place on are such
abbrev pub AreSteadyFrom : RequestOf → ResponseOf → ℕ → Type 0
AreSteadyFrom request response from = (place : ℕ) → from ≤ place → IsSteadyAt request response place

-- the identifier that a change names
abbrev pub changed_by : EffectOf → SubjectOf → Option (List ℕ)
changed_by (changes change) subject = id_by subject
changed_by effect subject = None

abbrev pub changed_id : AskedOf → Option (List ℕ)
changed_id asked = changed_by (effect_asked asked) (subject_asked asked)

-- and that of an item that was done
abbrev pub done_id : Status → AskedOf → Option (List ℕ)
done_id Success asked = changed_id asked
done_id Failed asked = None
done_id Undone asked = None

abbrev pub lone_answer : List AnswerOf → AskedOf → Option (List ℕ)
lone_answer [] asked = None
lone_answer (answer ∷ []) asked = done_id answer.status asked
lone_answer (answer ∷ (other ∷ answers)) asked = None

abbrev pub lone_item : List AskOf → List AnswerOf → Option (List ℕ)
lone_item [] answers = None
lone_item (ask ∷ []) answers = lone_answer answers ask.asked
lone_item (ask ∷ (other ∷ asks)) answers = None

-- the identifier of the object that a call of one item changes
abbrev pub target : StepOf → Option (List ℕ)
target s = lone_item s.request.items s.response.items

-- a call by place that changes no object and adds none, or changes one alone
abbrev pub IsLone : StepOf → Type 0
IsLone s = (order_of s ≡ None) × (((target s ≡ None) × AreSteadyFrom s.request s.response 0) ⊎ ((id : List ℕ) × (target s ≡ Some id)))

-- the first so many are such, and no two change the same object
pub record AreApartTo (calls : List StepOf) (count : ℕ) : Type 0 where
  pub each : (p : ℕ) → p < count → IsLone (step_at calls p)
  pub own : (p q : ℕ) (id : List ℕ) → p < count → q < count → target (step_at calls p) ≡ Some id → target (step_at calls q) ≡ Some id → p ≡ q

abbrev pub AreApart : List StepOf → Type 0
AreApart calls = AreApartTo calls (length calls)

-- a place has a mark
abbrev pub marked : List Bool → ℕ → Bool
marked marks place = slice_index_or marks place false

-- a place without a mark gets one
abbrev pub MarksPlace : ℕ → List Bool → Bool → List Bool → Type 0
MarksPlace place old false new = Unit {0}
MarksPlace place old true new = (place < length old) × (marked old place ≡ false) × (new ≡ slice_set old place true)

-- a call changes nothing, or one object alone, whose place gets a mark
abbrev pub Marks : List Card → StepOf → List Bool → Bool → List Bool → Type 0
Marks cs s old false new = Unit {0}
Marks cs s old true new =
    ((target s ≡ None) × AreSteadyFrom s.request s.response 0 × (new ≡ old))
    ⊎ ((id : List ℕ) × (place : ℕ) × (target s ≡ Some id) × (place_of id cs ≡ Some place) × MarksPlace place old true new)

-- THE FRONT

-- the calls taken say how all objects stand
pub record IsSettled (calls : List StepOf) (first : Meaning) : Type 0 where
  pub told : AreTold first
  pub apart : AreApart calls

-- so many objects are there at first; or none is compared
abbrev pub IsFront : List StepOf → Meaning → Option ℕ → Type 0
IsFront calls first None = IsSettled calls first
IsFront calls first (Some front) = front ≡ length first.objects
