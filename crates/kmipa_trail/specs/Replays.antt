-- A replay of the first turns of an order. Not promised: `Verdicts` says what a verdict tells.
use Rattle.std.specs.Prelude.{◌≡◌, ℕ, ℤ, Bool, true, false, if◌then◌else◌, List, Contains, length, take, Option, Some, None, Result, Ok, Err}
use Rattle.kmipa_store.specs.Ledger.{Meaning, LedgerState}
use Rattle.kmipa_store.specs.Choices.{Choice, Chooses, IsSound}
use Rattle.kmipa_record.specs.Declarations.{DeclarationOf}
use Rattle.kmipa_msgs.specs.Messages.{RulesOf}
use Rattle.kmipa_ops.specs.declared.why.Why.{Why}
use Rattle.kmipa_ops.specs.declared.why.Why.TheVariants.{EarlierCallLate, StampRunsBack}
use Rattle.kmipa_batch.specs.Orders.{order_given}
use Rattle.kmipa_batch.specs.declared.refusal.CallRefusal.{CallRefusal}
use Rattle.kmipa_batch.specs.declared.refusal.CallRefusal.TheVariants as refusal
use Rattle.kmipa_passed.specs.Leaving.{empty}
use Rattle.kmipa_aside.specs.Explains.{Took, world}
use Rattle.kmipa_aside.specs.Worlds.{WorldOf}
use Rattle.kmipa_bundle.specs.Composing.{DoesDeed, TellsDeed}
use Rattle.kmipa_bundle.specs.Counts.{CountsOf, counts_of}
use Rattle.kmipa_bundle.specs.Refusals.{CallRefuted}
use Rattle.kmipa_bundle.specs.declared.counts.Counts.{Counts}
use Rattle.kmipa_places.specs.Calls.{ReadOf}
use Rattle.kmipa_check.specs.Runs.{rules_declared}
use Rattle.kmipa_turns.specs.Steps.{StepOf, TakenOf, takes}
use Rattle.kmipa_turns.specs.Laws.{IsTakable}
use Rattle.kmipa_trail.specs.Back.{IsLatest, is_back}
use Rattle.kmipa_trail.specs.Leading.{Leads, AreKnown, deed_in}
use Rattle.kmipa_trail.specs.Opening.{DescribesWorld}
use Rattle.kmipa_trail.specs.Placing.{ArePlaced}
use Rattle.kmipa_trail.specs.Tallies.{TallyOf, Tallies, CountsTaken, no_tally}
use Rattle.kmipa_trail.specs.Told.{tally_of}
use Rattle.kmipa_trail.specs.Verdicts.{IsRefused}
use Rattle.kmipa_trail.specs.declared.fault.Fault.{Fault}
use Rattle.kmipa_trail.specs.declared.fault.Fault.TheVariants.{Witness, Memory}
use Rattle.kmipa_trail.specs.declared.verdict.Verdict.{Verdict}
use Rattle.kmipa_trail.specs.declared.verdict.Verdict.TheVariants.{Yes, No}

-- each of these can be taken
abbrev pub AllTakable : List StepOf → Type 0
AllTakable steps = (s : StepOf) → Contains steps s → IsTakable s.taken

-- ---- one step

-- by whether a turn is late, the last moment before it, and its own
abbrev pub misplaced : Bool → Option ℤ → Option ℤ → Option Why
misplaced true last moment = Some EarlierCallLate
misplaced false last moment = if is_back last moment then Some StampRunsBack else None

-- its items count so in each world that the ledger stood for: from `m` to `n`
abbrev pub StepCounted : RulesOf → Meaning → TakenOf → CountsOf → Meaning → Type 0
StepCounted rules m taken k n = (c : Choice) → Chooses n.secrets c → CountsTaken rules (world c m) taken k

-- what taking a step comes to: from a ledger `s` to `u`
abbrev pub StepTaken : RulesOf → LedgerState → TakenOf → Result Counts CallRefusal → LedgerState → Type 0
StepTaken rules s taken (Ok n) u =
    Took (DoesDeed rules (deed_in taken)) (TellsDeed (deed_in taken)) s empty u empty × StepCounted rules s.now taken (counts_of n) u.now
StepTaken rules s taken (Err (refusal.Impossible item why)) u =
    (c : ReadOf) × (places : Option (List ℕ)) × (taken ≡ takes c places) × CallRefuted rules s.now c (order_given places) item why
StepTaken rules s taken (Err refusal.Memory) u = Unit {0}

-- ---- the first turns

-- each choice comes from a described world along steps that count so
abbrev pub AreTallied : DeclarationOf → List StepOf → Meaning → TallyOf → Type 0
AreTallied declared steps m k =
    (c : Choice) → Chooses m.secrets c → (start : WorldOf) × DescribesWorld declared start × Tallies (rules_declared declared) start no_tally steps (world c m) k

-- the first turns are placed, this is their last moment, the ledger knows what they leave, and so their items count
pub record Replayed (declared : DeclarationOf) (order : List StepOf) (count : ℕ) (m : Meaning) (last : Option ℤ) (k : TallyOf) : Type 0 where
  pub placed : ArePlaced order count
  pub latest : IsLatest order count last
  pub known : AreKnown declared (take count order) m
  pub sound : IsSound m
  pub tallied : AreTallied declared (take count order) m k

-- ---- the whole

-- all turns are placed, and some described world has a run by them, in which so many items are judged
pub record RunsThrough (declared : DeclarationOf) (order : List StepOf) (k : TallyOf) : Type 0 where
  pub placed : ArePlaced order (length order)
  pub start : WorldOf
  pub described : DescribesWorld declared start
  pub last : WorldOf
  pub linked : Leads (rules_declared declared) start order last
  pub tallied : Tallies (rules_declared declared) start no_tally order last k

-- what a replay comes to
abbrev pub TellsRun : DeclarationOf → List StepOf → Result Verdict Fault → Type 0
TellsRun declared order (Ok (Yes tally)) = RunsThrough declared order (tally_of tally)
TellsRun declared order (Ok (No r stamp)) = IsRefused declared order r stamp
TellsRun declared order (Err (Witness f)) = ⊥
TellsRun declared order (Err Memory) = Unit {0}
