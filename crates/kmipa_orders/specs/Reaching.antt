-- Calls that are taken along a hint, and tries of those that may be next. Not promised: `Reached` says what is told.
use Rattle.std.specs.Prelude.{◌≡◌, ◌<◌, ℕ, ℤ, List, map, AllPairs, Contains, Option, Some, None, Result, Ok, Err}
use Rattle.std.specs.List.{AllZip}
use Rattle.kmipa_store.specs.Ledger.{LedgerState, Meaning}
use Rattle.kmipa_store.specs.Choices.{IsSound}
use Rattle.kmipa_record.specs.Declarations.{DeclarationOf}
use Rattle.kmipa_msgs.specs.Messages.{RulesOf}
use Rattle.kmipa_batch.specs.Refusals.{CallExplainsAlong, CallRefutedAlong}
use Rattle.kmipa_check.specs.Steps.{StepOf, order_of}
use Rattle.kmipa_check.specs.Verdicts.{AreKnown}
use Rattle.kmipa_check.specs.declared.fault.CheckFault.{CheckFault}
use Rattle.kmipa_check.specs.declared.fault.CheckFault.TheVariants.{Outside, Witness, Memory}
use Rattle.kmipa_check.specs.declared.verdict.Refused.{Refused}
use Rattle.kmipa_orders.specs.Cursors.{IsCursor}
use Rattle.kmipa_orders.specs.Next.{IsNext}
use Rattle.kmipa_orders.specs.Taken.{so_far}
use Rattle.kmipa_orders.specs.Reached.{TellsNext}
use Rattle.kmipa_orders.specs.Remaining.{AreRemaining}
use Rattle.kmipa_orders.specs.declared.stuck.NextCall.{NextCall}
use Rattle.kmipa_orders.specs.declared.remaining.Remaining.{Remaining}

-- steps of these numbers were taken, one after the other; the others remain, and the ledger knows what they leave
pub record AreTaken (declared : DeclarationOf) (steps : List StepOf) (w : Remaining) (m : Meaning) (numbers : List ℤ) : Type 0 where
  pub taken : List ℕ
  pub remaining : AreRemaining steps taken w
  pub known : AreKnown declared (so_far steps taken) m
  pub are : numbers ≡ map (λ (s : StepOf). s.number) (so_far steps taken)

-- what trying a call at this turn says of it: possible over what is known, or refused so
abbrev pub IsJudged : RulesOf → Meaning → StepOf → ℕ → Option Refused → Type 0
IsJudged rules m c turn None = (n : Meaning) × CallExplainsAlong rules m c.request c.response (order_of c) n × IsSound n
IsJudged rules m c turn (Some r) = (r.turn ≡ turn) × (r.call ≡ c.number) × CallRefutedAlong rules m c.request c.response (order_of c) r.item r.why

-- and nothing is changed; only want of memory stops it
abbrev pub CallJudged : RulesOf → LedgerState → StepOf → ℕ → Result NextCall CheckFault → LedgerState → Type 0
CallJudged rules s c turn (Ok told) u = ((told.call ≡ c.number) × IsJudged rules s.now c turn told.refused) × (u ≡ s)
CallJudged rules s c turn (Err Memory) u = Unit {0}
CallJudged rules s c turn (Err (Outside number side o)) u = ⊥
CallJudged rules s c turn (Err (Witness f)) u = ⊥

-- of each step that may be next and begins ahead of a place something is told
pub record TellsAhead (declared : DeclarationOf) (steps : List StepOf) (taken : List ℕ) (from : ℕ) (told : List NextCall) : Type 0 where
  pub places : List ℕ
  pub cursor : IsCursor steps taken from
  pub each : (place : ℕ) → Contains places place → IsNext steps taken place
  pub all : (place : ℕ) → IsNext steps taken place → place < from → Contains places place
  pub ahead : (place : ℕ) → Contains places place → place < from
  pub ascend : AllPairs (λ a b. a < b) places
  pub zipped : AllZip (TellsNext declared steps taken) places told
