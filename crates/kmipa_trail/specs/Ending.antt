-- WHAT A CHECK TELLS where what isn't judged ends the audit, and not every client sees every object (profile).
use Rattle.std.specs.Prelude.{List, map, length, Result, Ok, Err}
use Rattle.kmipa_record.specs.Marks.{MarkOf}
use Rattle.kmipa_record.specs.Declarations.{DeclarationOf}
use Rattle.kmipa_record.specs.Witnesses.{TurnOf}
use Rattle.kmipa_aside.specs.Worlds.{WorldOf}
use Rattle.kmipa_check.specs.Calls.{CallOf, AreCalls}
use Rattle.kmipa_check.specs.Grants.{grants_declared}
use Rattle.kmipa_check.specs.Orders.{IsOrder}
use Rattle.kmipa_check.specs.Runs.{rules_declared}
use Rattle.kmipa_check.specs.Steps as ever
use Rattle.kmipa_check.specs.Verdicts as ever_told
use Rattle.kmipa_check.specs.declared.fault.CheckFault.{CheckFault}
use Rattle.kmipa_turns.specs.Steps.{StepOf}
use Rattle.kmipa_trail.specs.Opening.{DescribesWorld}
use Rattle.kmipa_trail.specs.Leading.{Leads}
use Rattle.kmipa_trail.specs.Owners.{in_sight}
use Rattle.kmipa_trail.specs.Placing.{ArePlaced}
use Rattle.kmipa_trail.specs.Verdicts.{IsRefused}
use Rattle.kmipa_trail.specs.Whole.{whole_step}
use Rattle.kmipa_trail.specs.declared.verdict.Verdict.{Verdict}
use Rattle.kmipa_trail.specs.declared.verdict.Verdict.TheVariants.{Yes, No}

-- the steps, each with what may be hidden from its client
abbrev pub steps_in_sight : List MarkOf → DeclarationOf → List ever.StepOf → List StepOf
steps_in_sight marks declared steps = in_sight declared (map (whole_step marks) steps)

-- No message is outside, and the witness is formed for the calls of the transcript. Its steps, each with what may be hidden from its client, are placed, and
-- some world that the declaration describes has a run of all calls by these steps, which gives every recorded response.
pub record IsAcceptedInSight (marks : List MarkOf) (declared : DeclarationOf) (turns : List TurnOf) : Type 0 where
  pub calls : List CallOf
  pub are : AreCalls marks calls
  pub steps : List ever.StepOf
  pub order : IsOrder (grants_declared declared) calls turns steps
  pub placed : ArePlaced (steps_in_sight marks declared steps) (length (steps_in_sight marks declared steps))
  pub start : WorldOf
  pub described : DescribesWorld declared start
  pub last : WorldOf
  pub linked : Leads (rules_declared declared) start (steps_in_sight marks declared steps) last

abbrev pub TellsInSight : List MarkOf → DeclarationOf → List TurnOf → Verdict → Type 0
TellsInSight marks declared turns (Yes tally) = IsAcceptedInSight marks declared turns
TellsInSight marks declared turns (No r stamp) =
    (calls : List CallOf) × AreCalls marks calls
    × ((steps : List ever.StepOf) × IsOrder (grants_declared declared) calls turns steps × IsRefused declared (steps_in_sight marks declared steps) r stamp)

-- THE DEFINITION: a verdict; or, as where clients see every object, the first message that is outside, or the fault of the witness where none is
abbrev pub ChecksInSight : List MarkOf → DeclarationOf → List TurnOf → Result Verdict CheckFault → Type 0
ChecksInSight marks declared turns (Ok verdict) = TellsInSight marks declared turns verdict
ChecksInSight marks declared turns (Err fault) = ever_told.Checks marks declared turns (Err fault)
