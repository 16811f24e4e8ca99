-- WHAT A SEARCH BESIDE WHAT IS SET ASIDE ANSWERS: an order of the calls that is accepted, and by which the witness sets nothing aside; or that it gave up (profile).
use Rattle.std.specs.Prelude.{◌≡◌, ◌<◌, ◌≤◌, ℕ, List, All}
use Rattle.kmipa_msgs.specs.declared.rules.Visibility.TheVariants.{Everyone}
use Rattle.kmipa_record.specs.Declarations.{DeclarationOf}
use Rattle.kmipa_record.specs.Marks.{MarkOf}
use Rattle.kmipa_record.specs.Witnesses.{TurnOf, witness_of}
use Rattle.kmipa_trail.specs.Tallies.{TallyOf}
use Rattle.kmipa_trail.specs.Told.{tally_of}
use Rattle.kmipa_trail.specs.Verdicts.{IsAccepted}
use Rattle.kmipa_check.specs.Grants.{GrantsNothing, grants_declared}
use Rattle.kmipa_findings.specs.Choices.{IsPlainBeside}
use Rattle.kmipa_findings.specs.Findings.{IsUnexplained, SetsNothingAside}
use Rattle.kmipa_findings.specs.Trying.{IsTakableStep}
use Rattle.kmipa_findings.specs.declared.seeking.Order.{Order}
use Rattle.kmipa_findings.specs.declared.seeking.Sought.{Sought}
use Rattle.kmipa_findings.specs.declared.seeking.Sought.TheVariants.{Found, GaveUp, OutOfTime}
use Rattle.kmipa_findings.specs.declared.descending.End.{End}
use Rattle.kmipa_findings.specs.declared.descending.End.TheVariants as end
use Rattle.kmipa_findings.specs.declared.trial.Trial.{Trial}
use Rattle.kmipa_findings.specs.declared.trial.Way.{Way}
use Rattle.kmipa_findings.specs.declared.trial.Way.TheVariants.{Bare, Waits}

-- a witness explains every answer that is judged: it is accepted, so many items are judged by it, and it sets nothing aside
pub record Explains (marks : List MarkOf) (declared : DeclarationOf) (turns : List TurnOf) (tally : TallyOf) : Type 0 where
  pub accepted : IsAccepted marks declared turns tally
  pub aside : SetsNothingAside turns
  pub unexcepted : tally.excepted ≡ 0

-- so does an order that was found, with no more steps than the budget has
abbrev pub IsSought : ℕ → List MarkOf → DeclarationOf → Order → Type 0
IsSought budget marks declared order = Explains marks declared (witness_of order.witness) (tally_of order.tally) × (order.steps ≤ budget)

-- No order explains every answer; where that is decided: of a recording that is plain beside what is set aside, where nothing is granted, and each client sees
-- every object.
abbrev pub IsDecided : List MarkOf → DeclarationOf → Type 0
IsDecided marks declared = IsPlainBeside marks declared → GrantsNothing (grants_declared declared) → declared.settings.visibility ≡ Everyone → IsUnexplained marks declared

-- it gave up after so many tries: with fewer than the budget has only where it has decided
abbrev pub IsGivenUp : ℕ → List MarkOf → DeclarationOf → ℕ → Type 0
IsGivenUp budget marks declared steps = (steps ≤ budget) × (steps < budget → IsDecided marks declared)

-- THE DEFINITION. Where a search has so many seconds it tries at most so many calls; and where its time is over, these are its seconds.
abbrev pub Seeks : ℕ → ℕ → List MarkOf → DeclarationOf → Sought → Type 0
Seeks seconds budget marks declared (Found order) = IsSought budget marks declared order
Seeks seconds budget marks declared (GaveUp steps) = IsGivenUp budget marks declared steps
Seeks seconds budget marks declared (OutOfTime steps after) = (steps ≤ budget) × (after ≡ seconds)

-- ---- on the way; not promised

-- a call that waits for no payload has a step that can be taken
abbrev pub IsTakableWay : Way → Type 0
IsTakableWay (Bare step) = IsTakableStep step
IsTakableWay (Waits said) = Unit {0}

abbrev pub IsTakableTrial : Trial → Type 0
IsTakableTrial t = IsTakableWay t.way

abbrev pub AreTakableTrials : List Trial → Type 0
AreTakableTrials = All IsTakableTrial

-- where a search has so many seconds, these are all that may be over
abbrev pub EndsSo : ℕ → End → Type 0
EndsSo seconds (end.Whole turns) = Unit {0}
EndsSo seconds end.Exhausted = Unit {0}
EndsSo seconds end.Spent = Unit {0}
EndsSo seconds (end.Over after) = after ≡ seconds
