-- Steps that are followed over a ledger. Not promised: `Asides` says what is told along them.
use Rattle.std.specs.Prelude.{◌≡◌, ℕ, List, [], Result, Ok, Err}
use Rattle.kmipa_store.specs.Ledger.{Meaning, LedgerState}
use Rattle.kmipa_store.specs.Choices.{Choice, Chooses}
use Rattle.kmipa_msgs.specs.Messages.{RulesOf}
use Rattle.kmipa_record.specs.Declarations.{DeclarationOf}
use Rattle.kmipa_passed.specs.Leaving.{empty}
use Rattle.kmipa_aside.specs.Explains.{Took, world}
use Rattle.kmipa_aside.specs.Worlds.{WorldOf}
use Rattle.kmipa_bundle.specs.Composing.{DoesDeed, TellsDeed}
use Rattle.kmipa_check.specs.Runs.{rules_declared}
use Rattle.kmipa_turns.specs.Steps.{StepOf, TakenOf}
use Rattle.kmipa_trail.specs.Leading.{deed_in}
use Rattle.kmipa_trail.specs.Opening.{DescribesWorld}
use Rattle.kmipa_unjudged.specs.Asides.{TellsAlong}
use Rattle.kmipa_unjudged.specs.Told.{NamedOf}

-- a step is taken: from a ledger `s` to `u`
abbrev pub StepFollowed : {A E : Type 0} → RulesOf → LedgerState → TakenOf → Result A E → LedgerState → Type 0
StepFollowed rules s taken (Ok done) u = Took (DoesDeed rules (deed_in taken)) (TellsDeed (deed_in taken)) s empty u empty
StepFollowed rules s taken (Err e) u = Unit {0}

-- each choice comes from a described world along steps that tell so
abbrev pub AreToldAfter : DeclarationOf → List StepOf → Meaning → List NamedOf → Type 0
AreToldAfter declared steps m told =
    (c : Choice) → Chooses m.secrets c → (start : WorldOf) × DescribesWorld declared start × TellsAlong (rules_declared declared) start [] steps (world c m) told
