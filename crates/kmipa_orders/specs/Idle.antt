-- Calls without effect, whose possibility hangs on no bytes.
use Rattle.std.specs.Prelude.{◌≡◌, ◌≤◌, ℕ, Bool, true, false, List, [], ◌∷◌, slice_get, Some, None}
use Rattle.kmipa_msgs.specs.declared.response.Status.{Status}
use Rattle.kmipa_msgs.specs.declared.response.Status.TheVariants.{Success, Failed, Undone}
use Rattle.kmipa_msgs.specs.Messages.{AskedOf, AskOf, AnswerOf, RequestOf, ResponseOf}
use Rattle.kmipa_ops.specs.Effects.{EffectOf, does_nothing, lists, shows_attributes}
use Rattle.kmipa_ops.specs.Rows.{effect_asked}
use Rattle.kmipa_batch.specs.Calls.{pairs_of}
use Rattle.kmipa_check.specs.Steps.{StepOf, order_of}

-- operations that look at objects, but not at their bytes
abbrev pub looks_by : EffectOf → Bool
looks_by (lists filter) = true
looks_by (shows_attributes asked) = true
looks_by does_nothing = true
looks_by effect = false

abbrev pub only_looks : AskedOf → Bool
only_looks asked = looks_by (effect_asked asked)

-- an item that failed changes nothing either
abbrev pub is_idle_item : AskedOf → Status → Bool
is_idle_item asked Failed = true
is_idle_item asked Success = only_looks asked
is_idle_item asked Undone = only_looks asked

-- the same along a list of pairs
abbrev pub AllIdle : List (AskOf × AnswerOf) → Type 0
AllIdle [] = Unit {0}
AllIdle (pair ∷ pairs) = (is_idle_item pair.0.asked pair.1.status ≡ true) × AllIdle pairs

-- a step by place, whose items are all without effect
abbrev pub IsIdleStep : StepOf → Type 0
IsIdleStep s = (order_of s ≡ None) × AllIdle (pairs_of s.request s.response)

-- ---- place by place, not promised

abbrev pub IsIdleAt : RequestOf → ResponseOf → ℕ → Type 0
IsIdleAt request response place = (ask : AskOf) (answer : AnswerOf) → slice_get (pairs_of request response) place ≡ Some (ask, answer) → is_idle_item ask.asked answer.status ≡ true

-- all items from this place on are without effect
abbrev pub AreIdleFrom : RequestOf → ResponseOf → ℕ → Type 0
AreIdleFrom request response from = (place : ℕ) → from ≤ place → IsIdleAt request response place
