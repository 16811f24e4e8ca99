-- What one item of a batch does: the inventory and the ID Placeholder before it, the moment, what was asked and answered, and the
-- inventory and the placeholder after it (KMIP 2.1, section 6; what an answer may show and leave out: profile).
use Rattle.std.specs.Prelude.{◌≡◌, ℕ, ℤ, List, Option}
use Rattle.kmipa_object.specs.Inventory.{Thing, cards}
use Rattle.kmipa_msgs.specs.Messages.{RulesOf, AskedOf, AskOf, operation_asked, PayloadOf, AnswerOf}
use Rattle.kmipa_msgs.specs.Operations.{operation_number}
use Rattle.kmipa_msgs.specs.declared.response.Status.{Status}
use Rattle.kmipa_msgs.specs.declared.response.Status.TheVariants.{Success, Failed, Undone}
use Rattle.kmipa_ops.specs.Founded.{Founded}
use Rattle.kmipa_ops.specs.Objects.{Echoes, Agree}
use Rattle.kmipa_ops.specs.Row.{row_does}
use Rattle.kmipa_ops.specs.Rows.{asked_row}

-- an operation succeeds with this payload
abbrev pub Succeeds : RulesOf → List Thing → Option (List ℕ) → ℤ → AskedOf → Option PayloadOf → List Thing → Option (List ℕ) → Type 0
Succeeds rules V before t asked payload V' after = row_does (asked_row asked) rules V before t payload V' after

-- a failed answer changes nothing, and is possible where its reason is founded
pub record Fails (rules : RulesOf) (V : List Thing) (before : Option (List ℕ)) (t : ℤ) (asked : AskedOf) (reason : Option ℕ) (V' : List Thing) (after : Option (List ℕ)) : Type 0 where
  pub founded : Founded rules (cards V) before t asked reason
  pub leaves : V' ≡ V
  pub placeholder : after ≡ before

-- by the status: an Undone item was done at its place, and is judged as Success
abbrev pub Outcome : Status → RulesOf → List Thing → Option (List ℕ) → ℤ → AskedOf → Option ℕ → Option PayloadOf → List Thing → Option (List ℕ) → Type 0
Outcome Success rules V before t asked reason payload V' after = Succeeds rules V before t asked payload V' after
Outcome Undone rules V before t asked reason payload V' after = Succeeds rules V before t asked payload V' after
Outcome Failed rules V before t asked reason payload V' after = Fails rules V before t asked reason V' after

-- one item: Operation and Unique Batch Item ID, where they are there, are those of the request
pub record Does (rules : RulesOf) (V : List Thing) (before : Option (List ℕ)) (t : ℤ) (ask : AskOf) (answer : AnswerOf) (V' : List Thing) (after : Option (List ℕ)) : Type 0 where
  pub operation : Echoes answer.operation (operation_number (operation_asked ask.asked))
  pub batch_id : Agree answer.batch_id ask.batch_id
  pub outcome : Outcome answer.status rules V before t ask.asked answer.reason answer.payload V' after
