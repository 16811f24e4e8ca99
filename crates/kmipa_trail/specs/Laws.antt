-- What the definitions say together.
use Rattle.std.specs.Prelude.{◌≡◌, ◌≢◌, ◌⊎◌, ◌↔◌, ℕ, suc, ℤ, List, Contains, length, take, Option, Some, Result, Ok, Err, slice_get}
use Rattle.kmipa_msgs.specs.declared.rules.Visibility.TheVariants.{Everyone}
use Rattle.kmipa_record.specs.Declarations.{DeclarationOf}
use Rattle.kmipa_record.specs.Marks.{MarkOf, AreRecorded}
use Rattle.kmipa_record.specs.Witnesses.{TurnOf}
use Rattle.kmipa_aside.specs.Sights.{OwnedOf}
use Rattle.kmipa_aside.specs.Worlds.{WorldOf}
use Rattle.kmipa_check.specs.Runs.{rules_declared}
use Rattle.kmipa_check.specs.declared.verdict.Refused.{Refused}
use Rattle.kmipa_turns.specs.Steps.{StepOf}
use Rattle.kmipa_trail.specs.Leading.{Leads}
use Rattle.kmipa_trail.specs.Opening.{DescribesWorld}
use Rattle.kmipa_trail.specs.Owners.{identity, in_sight, owners_at_first, step_hiding}
use Rattle.kmipa_trail.specs.Ownership.{IsOwnedBy, owners_after}
use Rattle.kmipa_trail.specs.Placing.{ArePlaced}
use Rattle.kmipa_trail.specs.Tallies.{TallyOf}
use Rattle.kmipa_trail.specs.Verdicts.{Checks, IsAccepted, IsRefused}
use Rattle.kmipa_trail.specs.declared.fault.Fault.{Fault}
use Rattle.kmipa_trail.specs.declared.fault.Fault.TheVariants.{Memory}
use Rattle.kmipa_trail.specs.declared.verdict.Verdict.{Verdict}
use Rattle.kmipa_trail.specs.declared.verdict.Verdict.TheVariants.{Yes, No}

-- a no is right: where an order is refused it isn't placed, or no described world has a run by it
abbrev pub RefusedIsNever : Type 0
RefusedIsNever =
    (declared : DeclarationOf) (order : List StepOf) (r : Refused) (stamp : Option ℤ) (start last : WorldOf) → IsRefused declared order r stamp
    → ArePlaced order (length order) → DescribesWorld declared start → Leads (rules_declared declared) start order last → ⊥

-- the answer is yes, whatever it counts
abbrev pub IsYes : Result Verdict Fault → Type 0
IsYes (Ok (Yes tally)) = Unit {0}
IsYes (Ok (No r stamp)) = ⊥
IsYes (Err f) = ⊥

-- of an accepted witness a check answers yes, unless memory runs out; so it answers yes exactly there
abbrev pub AcceptedIsYes : Type 0
AcceptedIsYes =
    (marks : List MarkOf) (declared : DeclarationOf) (turns : List TurnOf) (tally : TallyOf) (result : Result Verdict Fault) → AreRecorded marks
    → IsAccepted marks declared turns tally → Checks marks declared turns result → IsYes result ⊎ (result ≡ Err Memory)

-- Where not every client sees every object: behind steps an object is told as someone's exactly where it is that one's.
abbrev pub OwnersAreTold : Type 0
OwnersAreTold =
    (declared : DeclarationOf) (steps : List StepOf) (o : OwnedOf) → declared.settings.visibility ≢ Everyone
    → Contains (owners_after declared.settings.visibility (owners_at_first declared.settings.visibility declared.entries) steps) o ↔ IsOwnedBy declared steps o.id o.owner

-- And of each step exactly those objects are hidden from its client that are someone else's behind it.
abbrev pub HiddenIsOthers : Type 0
HiddenIsOthers =
    (declared : DeclarationOf) (steps : List StepOf) (turn : ℕ) (s : StepOf) → declared.settings.visibility ≢ Everyone → slice_get steps turn ≡ Some s
    → (hidden : List (List ℕ)) × (slice_get (in_sight declared steps) turn ≡ Some (step_hiding hidden s))
    × ((id : List ℕ) → Contains hidden id ↔ ((owner : List ℕ) × IsOwnedBy declared (take (suc turn) steps) id owner × (owner ≢ identity s.client)))
