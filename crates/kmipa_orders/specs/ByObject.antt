-- What some objects say of calls, one or several: where the parts of the calls on them have no run, the calls have none.
use Rattle.std.specs.Prelude.{◌≡◌, ◌≢◌, ◌⊎◌, ℕ, List, [], Option, Some, None, AllPairs}
use Rattle.std.specs.List.{filter, filter_map, AllZip}
use Rattle.kmipa_record.specs.Marks.{MarkOf, AreRecorded}
use Rattle.kmipa_record.specs.Declarations.{DeclarationOf}
use Rattle.kmipa_record.specs.Entries.{EntryOf}
use Rattle.kmipa_msgs.specs.Messages.{request_of, response_of}
use Rattle.kmipa_check.specs.Calls.{CallOf, AreCalls}
use Rattle.kmipa_check.specs.Grants.{GrantsNothing, grants_declared}
use Rattle.kmipa_check.specs.Runs.{IsExplained}
use Rattle.kmipa_check.specs.Steps.{StepOf}
use Rattle.kmipa_parts.specs.Parts.{OwnOf, is_among, AreParts, IsElsewhere, IsPartOf, MayTouch}
use Rattle.kmipa_orders.specs.Plain.{IsPlainStep}
use Rattle.kmipa_orders.specs.declared.by_object.CallPart.{CallPart}
use Rattle.kmipa_orders.specs.Progress.{AllReadable, AreBegun, AreTimed, HaveRun}

-- what is declared of some objects, and of no other
abbrev pub declared_on : OwnOf → DeclarationOf → DeclarationOf
declared_on own declared = record declared { entries = filter (λ (e : EntryOf). own e.id) declared.entries; asides = [] }

-- the part of a call as a step
abbrev pub part_step : CallPart → StepOf
part_step p = record {
  number = p.number;
  begin = p.begin;
  end = Some p.end;
  request = request_of p.part.request;
  response = response_of p.part.response;
  stamp = (response_of p.part.response).stamp;
  places = None;
}

-- what a search asks of calls but for what is known: each stands once, they begin in their order, none is before itself
pub record AreOrderly (calls : List StepOf) : Type 0 where
  pub once : AllPairs (λ (a b : StepOf). a ≢ b) calls
  pub begun : AreBegun calls
  pub timed : AreTimed calls

-- By object: where calls have a run from a described inventory, their parts on some objects have one from what is declared of these.
abbrev pub RunsByObject : Type 0
RunsByObject =
    (declared : DeclarationOf) (own : OwnOf) (calls parts : List StepOf) → AllReadable calls → AreBegun calls → AreParts own calls parts
    → HaveRun declared calls → HaveRun (declared_on own declared) parts

-- ---- calls of a transcript, of which some may not be plain

-- What a call does to some objects: a plain one has this part on them, or none where it leaves them as they are; one that isn't plain has none,
-- and may touch none of them, whatever it is answered. [profile]
abbrev pub IsCallPart : OwnOf → CallOf → Option StepOf → Type 0
IsCallPart own c (Some part) = (s : StepOf) × IsPlainStep c s × IsPartOf own s part
IsCallPart own c None = ((s : StepOf) × IsPlainStep c s × IsElsewhere own s) ⊎ (MayTouch own c.request → ⊥)

-- the parts of all calls on some objects
pub record AreCallParts (own : OwnOf) (calls : List CallOf) (parts : List StepOf) : Type 0 where
  pub each : List (Option StepOf)
  pub of_calls : AllZip (IsCallPart own) calls each
  pub are : parts ≡ filter_map (λ (part : Option StepOf). part) each

-- The objects of these identifiers refute the calls: the parts of the calls on them have no run from what is declared of them.
pub record RefutesCalls (declared : DeclarationOf) (calls : List CallOf) (ids : List (List ℕ)) : Type 0 where
  pub parts : List StepOf
  pub of_calls : AreCallParts (is_among ids) calls parts
  pub none : HaveRun (declared_on (is_among ids) declared) parts → ⊥

-- they refute those of a transcript
abbrev pub IsRefutedBy : List MarkOf → DeclarationOf → List (List ℕ) → Type 0
IsRefutedBy marks declared ids = (calls : List CallOf) × AreCalls marks calls × RefutesCalls declared calls ids

-- By objects: where some refute a transcript, one or several, and the declaration grants nothing, no order explains every answer.
abbrev pub RefutedByObject : Type 0
RefutedByObject =
    (marks : List MarkOf) (declared : DeclarationOf) (ids : List (List ℕ)) → GrantsNothing (grants_declared declared) → AreRecorded marks → IsRefutedBy marks declared ids → IsExplained marks declared → ⊥
