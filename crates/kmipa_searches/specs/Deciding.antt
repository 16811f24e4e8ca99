-- What a search says by giving up: that no order explains the transcript, or nothing, and then why.
use Rattle.std.specs.Prelude.{◌≡◌, ◌≢◌, ◌<◌, ◌≤◌, ◌⊎◌, ℕ, ℤ, pos, List, [], ◌∷◌, length, map, Bool, Option, Some, None, Result, Ok, Err, String}
use Rattle.std.specs.String.{string_bytes}
use Rattle.std.specs.declared.alloc.Global.{Global}
use Rattle.kmipa_msgs.specs.Messages.{ResponseOf}
use Rattle.kmipa_record.specs.Marks.{MarkOf}
use Rattle.kmipa_record.specs.Declarations.{DeclarationOf, IsDeclaration}
use Rattle.kmipa_record.specs.Transcripts.{IsTranscript}
use Rattle.kmipa_check.specs.Calls.{CallOf, AreCalls}
use Rattle.kmipa_check.specs.Grants.{GrantsNothing, GrantsOf, grants_declared}
use Rattle.kmipa_check.specs.Plain.{IsPlainCall}
use Rattle.kmipa_check.specs.Runs.{IsExplained}
use Rattle.kmipa_check.specs.Steps.{StepOf}
use Rattle.kmipa_check.specs.declared.fault.CheckFault.{CheckFault}
use Rattle.kmipa_check.specs.declared.fault.CheckFault.TheVariants.{Memory}
use Rattle.kmipa_orders.specs.Found.{HasDecided}
use Rattle.kmipa_orders.specs.Plain.{ArePlain, IsForced}
use Rattle.kmipa_orders.specs.Reached.{HaveSteps, TellsReached}
use Rattle.kmipa_orders.specs.declared.found.Found.{Found}
use Rattle.kmipa_orders.specs.declared.found.Found.TheVariants.{Yes, GaveUp, Refuted, Impossible, OutOfTime}
use Rattle.kmipa_orders.specs.declared.stuck.Reached.{Reached}
use Rattle.kmipa_searches.specs.Searches.{SearchFails, SearchStops, SearchesRecords}
use Rattle.kmipa_telling.specs.FaultsTold.{IsSearchMeaning}
use Rattle.kmipa_telling.specs.declared.meaning.FaultTold.{FaultTold}
use Rattle.kmipa_searches.specs.declared.judged.Decision.{Decision}
use Rattle.kmipa_searches.specs.declared.judged.Decision.TheVariants as decision
use Rattle.kmipa_searches.specs.declared.judged.Judged.{Judged}

-- ---- which calls are plain

-- it has ended, its items have their order, and it waits for no payload [profile]
abbrev pub IsPlain : CallOf → Type 0
IsPlain c = (response : ResponseOf) × IsPlainCall c response

-- these are the numbers of the calls that aren't plain, each once, in the order of the calls
abbrev pub AreUnplain : List CallOf → List ℤ → Type 0
AreUnplain [] numbers = numbers ≡ []
AreUnplain (c ∷ calls) numbers = (IsPlain c × AreUnplain calls numbers)
    ⊎ (¬ (IsPlain c) × ((others : List ℤ) × AreUnplain calls others × (numbers ≡ c.number ∷ others)))

-- ---- what is said

-- each order was tried at the stamps, without births: that is decided where nothing else is granted; else it is said how far moments may be
-- from stamps, or that the server itself may give attributes at birth
abbrev pub IsDecidedUnder : GrantsOf → Decision → Type 0
IsDecidedUnder g decision.Decided = GrantsNothing g
IsDecidedUnder g (decision.Tolerant seconds) = (seconds ≡ g.tolerance) × ¬ (GrantsNothing g)
IsDecidedUnder g decision.Births = (g.tolerance ≡ pos 0) × ¬ (GrantsNothing g)
IsDecidedUnder g (decision.UsedUp steps) = ⊥
IsDecidedUnder g (decision.NotPlain numbers) = ⊥
IsDecidedUnder g (decision.Objects objects) = ⊥
IsDecidedUnder g decision.Impossible = ⊥
IsDecidedUnder g (decision.OutOfTime seconds) = ⊥

-- What is said of calls that were given up after so many steps of a budget: that the search has decided; or that it hasn't, since the calls are
-- plain and no steps were left, too few even where the calls are forced, or since these aren't plain; or that it had, were moments stamps. Of
-- objects or one call nothing is said, and nothing of seconds that are over.
abbrev pub IsSaid : GrantsOf → List CallOf → ℕ → ℕ → Decision → Type 0
IsSaid g calls budget count decision.Decided = HasDecided calls budget count × IsDecidedUnder g decision.Decided
IsSaid g calls budget count (decision.Tolerant seconds) = HasDecided calls budget count × IsDecidedUnder g (decision.Tolerant seconds)
IsSaid g calls budget count decision.Births = HasDecided calls budget count × IsDecidedUnder g decision.Births
IsSaid g calls budget count (decision.UsedUp steps) = ((plain : List StepOf) × ArePlain calls plain) × (budget ≤ count)
    × (IsForced (pos 0) calls → budget < length calls) × (steps ≡ budget)
IsSaid g calls budget count (decision.NotPlain numbers) = AreUnplain calls numbers.items × (numbers.items ≢ [])
IsSaid g calls budget count (decision.Objects objects) = ⊥
IsSaid g calls budget count decision.Impossible = ⊥
IsSaid g calls budget count (decision.OutOfTime seconds) = ⊥

-- what giving up says of a transcript with these marks, under a declaration that grants this
abbrev pub TellsDecision : List MarkOf → GrantsOf → ℕ → ℕ → Result Decision CheckFault → Type 0
TellsDecision marks g budget count (Ok said) = (calls : List CallOf) × AreCalls marks calls × IsSaid g calls budget count said
TellsDecision marks g budget count (Err fault) = SearchStops marks fault

-- ---- what is searched

-- it is said that some objects refute the transcript, which have these identifiers
abbrev pub TellsObjects : List (String Global) → Option Decision → Type 0
TellsObjects objects None = ⊥
TellsObjects objects (Some decision.Decided) = ⊥
TellsObjects objects (Some (decision.UsedUp steps)) = ⊥
TellsObjects objects (Some (decision.NotPlain numbers)) = ⊥
TellsObjects objects (Some (decision.Tolerant seconds)) = ⊥
TellsObjects objects (Some decision.Births) = ⊥
TellsObjects objects (Some decision.Impossible) = ⊥
TellsObjects objects (Some (decision.OutOfTime seconds)) = ⊥
TellsObjects objects (Some (decision.Objects named)) = map string_bytes named.items ≡ map string_bytes objects

-- the steps of a search that found no witness
abbrev pub given_up_steps : Found → Option ℕ
given_up_steps (Yes witness count) = None
given_up_steps (GaveUp count) = Some count
given_up_steps (Refuted count objects) = Some count
given_up_steps (Impossible count number) = Some count
given_up_steps (OutOfTime count after) = Some count

-- What is decided by what a search found, where this is said of the calls: what is said of them; or what was found says more, that some objects
-- or one call refute them, or that the seconds are over.
abbrev pub DecidesOf : Found → Decision → Decision → Type 0
DecidesOf (Yes witness count) said decided = decided ≡ said
DecidesOf (GaveUp count) said decided = decided ≡ said
DecidesOf (Refuted count objects) said decided = TellsObjects objects.items (Some decided)
DecidesOf (Impossible count number) said decided = decided ≡ decision.Impossible
DecidesOf (OutOfTime count after) said decided = decided ≡ decision.OutOfTime after

-- Of a yes nothing is said. Of a giving up something is; and where it is said to be decided, no order explains the transcript. Where some objects
-- refute the transcript, that is said, and no order explains it; and where the answer of one call is impossible over every inventory, no order
-- explains it. Where the seconds of the search are over, that is said, and how many they are.
abbrev pub TellsGivingUp : List MarkOf → DeclarationOf → ℕ → Found → Option Decision → Type 0
TellsGivingUp marks declared budget (Yes witness count) said = said ≡ None
TellsGivingUp marks declared budget (GaveUp count) None = ⊥
TellsGivingUp marks declared budget (GaveUp count) (Some said) = TellsDecision marks (grants_declared declared) budget count (Ok said)
    × (said ≡ decision.Decided → IsExplained marks declared → ⊥)
TellsGivingUp marks declared budget (Refuted count objects) said = TellsObjects objects.items said × (IsExplained marks declared → ⊥)
TellsGivingUp marks declared budget (Impossible count number) said = (said ≡ Some decision.Impossible) × (IsExplained marks declared → ⊥)
TellsGivingUp marks declared budget (OutOfTime count after) said = said ≡ Some (decision.OutOfTime after)

-- No order explains the transcript: no message is outside, and no inventory that the declaration describes has a run of all calls.
abbrev pub IsRefuted : List MarkOf → DeclarationOf → Type 0
IsRefuted marks declared = ((calls : List CallOf) × AreCalls marks calls) × (IsExplained marks declared → ⊥)

-- giving up says that it is decided
abbrev pub TellsDecided : List MarkOf → GrantsOf → ℕ → ℕ → Type 0
TellsDecided marks g budget count = TellsDecision marks g budget count (Ok decision.Decided)

-- it is said of calls that are plain
abbrev pub IsOfPlain : List MarkOf → Option Decision → Type 0
IsOfPlain marks (Some decision.Decided) = Unit {0}
IsOfPlain marks (Some (decision.UsedUp steps)) = Unit {0}
IsOfPlain marks (Some (decision.NotPlain numbers)) = ⊥
IsOfPlain marks (Some (decision.Tolerant seconds)) = Unit {0}
IsOfPlain marks (Some decision.Births) = Unit {0}
IsOfPlain marks (Some (decision.Objects objects)) = HaveSteps marks
IsOfPlain marks (Some decision.Impossible) = HaveSteps marks
IsOfPlain marks (Some (decision.OutOfTime seconds)) = HaveSteps marks
IsOfPlain marks None = ⊥

-- where it is, a place is told, and of others none
abbrev pub TellsPlace : List MarkOf → DeclarationOf → Option Decision → Option Reached → Type 0
TellsPlace marks declared said (Some reached) = IsOfPlain marks said × TellsReached marks declared reached
TellsPlace marks declared said None = IsOfPlain marks said → ⊥

abbrev pub TellsPlaceOf : List MarkOf → DeclarationOf → Option Decision → Result (Option Reached) CheckFault → Type 0
TellsPlaceOf marks declared said (Ok place) = TellsPlace marks declared said place
TellsPlaceOf marks declared said (Err fault) = fault ≡ Memory

-- what a search of records answers, what its giving up says, and where it got stuck
abbrev pub DecidesRecords : List MarkOf → DeclarationOf → ℕ → ℕ → Bool → Result Judged CheckFault → Type 0
DecidesRecords marks declared seconds budget asked (Ok judged) = SearchesRecords marks declared seconds budget asked (Ok judged.searched)
    × TellsGivingUp marks declared budget judged.searched.found judged.decision
    × TellsPlace marks declared judged.decision judged.reached
DecidesRecords marks declared seconds budget asked (Err fault) = SearchStops marks fault

-- a search of these files found this, and its giving up says this
pub record AreDecided (judged : Judged) (t d : List ℕ) (seconds budget : ℕ) (asked : Bool) : Type 0 where
  pub marks : List MarkOf
  pub transcript : IsTranscript t marks
  pub declared : DeclarationOf
  pub declaration : IsDeclaration d declared
  pub judges : DecidesRecords marks declared seconds budget asked (Ok judged)

-- what a search of two files answers; its faults are those of a search that says nothing of giving up, with what they mean
abbrev pub DecidesFiles : List ℕ → List ℕ → Bool → Bool → ℕ → ℕ → Bool → Result Judged FaultTold → Type 0
DecidesFiles t d failed_t failed_d seconds budget asked (Ok judged) = AreDecided judged t d seconds budget asked
DecidesFiles t d failed_t failed_d seconds budget asked (Err told) = SearchFails t d failed_t failed_d told.fault × IsSearchMeaning t told.fault told.meaning
