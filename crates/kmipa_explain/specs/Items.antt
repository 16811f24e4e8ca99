-- The items of an order, one after the other as they are taken, and which identifier each is about.
use Rattle.std.specs.Prelude.{ℕ, ◌+◌, ℤ, Bool, true, false, List, [], ◌∷◌, ◌++◌, length, Option, Some, None, slice_get}
use Rattle.kmipa_object.specs.Life.{Dates}
use Rattle.kmipa_msgs.specs.Messages.{AskedOf, AskOf, PayloadOf, AnswerOf, operation_asked}
use Rattle.kmipa_msgs.specs.Operations.{operation_number}
use Rattle.kmipa_msgs.specs.declared.response.Status.{Status}
use Rattle.kmipa_ops.specs.After.{placeholder_after}
use Rattle.kmipa_ops.specs.Effects.{EffectOf}
use Rattle.kmipa_ops.specs.Effects as op
use Rattle.kmipa_ops.specs.Rows.{about_asked, effect_asked}
use Rattle.kmipa_batch.specs.Calls.{pairs_of}
use Rattle.kmipa_batch.specs.Orders.{places_from}
use Rattle.kmipa_check.specs.Steps.{StepOf, order_of}
use Rattle.kmipa_explain.specs.Effects.{dates_set, tells_bytes}

-- An item that was asked and answered: its turn, its call and its place in the call, turn and place counted from 1; the moment of its call; the operation,
-- the status, whether it makes an object; the dates that it sets, whether it tells bytes; and the identifier that it is about, if it is about one.
pub record ItemOf : Type 0 where
  pub turn : ℕ
  pub call : ℤ
  pub item : ℕ
  pub stamp : ℤ
  pub operation : ℕ
  pub status : Status
  pub makes : Bool
  pub sets : Dates
  pub teaches : Bool
  pub about : Option (List ℕ)

-- the number of the operation that an item asks for
abbrev pub number_asked : AskOf → ℕ
number_asked ask = operation_number (operation_asked ask.asked)

-- an operation makes an object: a Create or a Register
abbrev pub makes_by : EffectOf → Bool
makes_by (op.makes new) = true
makes_by effect = false

abbrev pub makes_object : AskedOf → Bool
makes_object asked = makes_by (effect_asked asked)

-- The identifier that an item is about, where the ID Placeholder holds `before`: of a Create and a Register the one that is answered; of the
-- others on an object the one that they name, or else the placeholder's. A Locate and an operation that isn't read are about none.
abbrev pub about : Option (List ℕ) → AskedOf → Option PayloadOf → Option (List ℕ)
about before asked payload = about_asked before asked payload

-- the item of a call at a place, counted from 0, where the placeholder holds `before`
abbrev pub item_of : ℕ → StepOf → ℕ → Option (List ℕ) → AskOf → AnswerOf → ItemOf
item_of turn s place before ask answer = record {
  turn = turn;
  call = s.number;
  item = place + 1;
  stamp = s.response.stamp;
  operation = number_asked ask;
  status = answer.status;
  makes = makes_object ask.asked;
  sets = dates_set s.response.stamp ask.asked;
  teaches = tells_bytes ask.asked answer.payload;
  about = about before ask.asked answer.payload;
}

-- what stands at a place, if something does, with the items behind it
abbrev pub item_then : ℕ → StepOf → ℕ → Option (List ℕ) → Option (AskOf × AnswerOf) → (Option (List ℕ) → List ItemOf) → List ItemOf
item_then turn s place before None behind = behind before
item_then turn s place before (Some (ask, answer)) behind =
    item_of turn s place before ask answer ∷ behind (placeholder_after answer.status before ask.asked answer.payload)

-- the items at these places of a call, in this order, where the placeholder holds `before` at the first
abbrev pub items_along : ℕ → StepOf → List ℕ → Option (List ℕ) → List ItemOf
items_along turn s [] before = []
items_along turn s (place ∷ places) before =
    item_then turn s place before (slice_get (pairs_of s.request s.response) place) (λ (after : Option (List ℕ)). items_along turn s places after)

-- the places of a call in the order in which its items are taken
abbrev pub places_taken : Option (List ℕ) → ℕ → List ℕ
places_taken None count = places_from 0 count
places_taken (Some order) count = order

-- the items of a call: the placeholder is empty at its begin
abbrev pub items_of_call : ℕ → StepOf → List ItemOf
items_of_call turn s = items_along turn s (places_taken (order_of s) (length s.request.items)) None

-- the items of these calls, the first of which has this turn
abbrev pub items_from : ℕ → List StepOf → List ItemOf
items_from turn [] = []
items_from turn (s ∷ order) = items_of_call turn s ++ items_from (turn + 1) order

abbrev pub items_of : List StepOf → List ItemOf
items_of order = items_from 1 order
