-- What a search leaves of its ledger, where it takes calls and goes back. Not promised: that what it proposes is right is reported by a check.
use Rattle.std.specs.Prelude.{◌≡◌, ℕ, zero, suc, List, [], ◌∷◌, length, All, Option, Result, Ok, Err}
use Rattle.kmipa_store.specs.Ledger.{LedgerState, Meaning}
use Rattle.kmipa_store.specs.Choices.{IsSound}
use Rattle.kmipa_msgs.specs.Messages.{RulesOf}
use Rattle.kmipa_batch.specs.Orders.{order_given}
use Rattle.kmipa_passed.specs.Leaving.{empty}
use Rattle.kmipa_aside.specs.Explains.{Explains}
use Rattle.kmipa_bundle.specs.Composing.{DoesDeed, TellsDeed}
use Rattle.kmipa_bundle.specs.Refusals.{CallRefuted}
use Rattle.kmipa_places.specs.Calls.{ReadOf}
use Rattle.kmipa_turns.specs.Laws.{IsTakable}
use Rattle.kmipa_turns.specs.Steps.{TakenOf, takes, step_of}
use Rattle.kmipa_trail.specs.Leading.{deed_in}
use Rattle.kmipa_turns.specs.declared.step.Step.{Step}
use Rattle.kmipa_findings.specs.declared.trying.Advance.{Advance}
use Rattle.kmipa_findings.specs.declared.trying.Advance.TheVariants.{Taken, Refused}

-- a step that can be taken
abbrev pub IsTakableStep : Step → Type 0
IsTakableStep s = IsTakable (step_of s).taken

abbrev pub AreTakable : List Step → Type 0
AreTakable = All IsTakableStep

-- a step is taken after a new mark; or the ledger is as before
abbrev pub Advances : {E : Type 0} → LedgerState → Result Advance E → LedgerState → Type 0
Advances s (Ok (Taken depth)) u = IsSound u.now × (u.marks ≡ s.now ∷ s.marks) × (depth ≡ length u.marks)
Advances s (Ok (Refused item why)) u = u ≡ s
Advances s (Err fault) u = Unit {0}

-- from what was known it leads to what is known then; or no world that was known has it
abbrev pub TriesStep : {E : Type 0} → RulesOf → TakenOf → LedgerState → Result Advance E → LedgerState → Type 0
TriesStep rules taken s (Ok (Taken depth)) u = Explains (DoesDeed rules (deed_in taken)) (TellsDeed (deed_in taken)) s.now empty u.now empty
TriesStep rules taken s (Ok (Refused item why)) u =
    (c : ReadOf) × (places : Option (List ℕ)) × (taken ≡ takes c places) × CallRefuted rules s.now c (order_given places) item why
TriesStep rules taken s (Err fault) u = Unit {0}

-- the ledger was sound at so many of its newest marks
abbrev pub AreSoundMarks : ℕ → List Meaning → Type 0
AreSoundMarks zero marks = Unit {0}
AreSoundMarks (suc count) [] = ⊥
AreSoundMarks (suc count) (m ∷ marks) = IsSound m × AreSoundMarks count marks
