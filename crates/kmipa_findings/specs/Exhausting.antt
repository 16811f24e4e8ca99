-- WHEN A SEARCH HAS TRIED ALL THERE IS. Not promised: `Seeking` says what its giving up means.
use Rattle.std.specs.Prelude.{◌≡◌, ◌<◌, ◌≤◌, ◌<ℤ◌, ℕ, ℤ, true, List, [], ◌∷◌, ◌++◌, map, reverse, length, Contains, Option, Some, None, slice_get}
use Rattle.kmipa_store.specs.Ledger.{LedgerState, Meaning}
use Rattle.kmipa_msgs.specs.Messages.{RulesOf}
use Rattle.kmipa_msgs.specs.declared.rules.Visibility.TheVariants.{Everyone}
use Rattle.kmipa_record.specs.Declarations.{DeclarationOf}
use Rattle.kmipa_record.specs.Marks.{MarkOf}
use Rattle.kmipa_record.specs.Marks
use Rattle.kmipa_record.specs.Witnesses.{TurnOf}
use Rattle.kmipa_batch.specs.Orders.{order_given}
use Rattle.kmipa_passed.specs.Leaving.{empty}
use Rattle.kmipa_aside.specs.Explains.{Explains}
use Rattle.kmipa_bundle.specs.Composing.{DoesDeed, TellsDeed}
use Rattle.kmipa_bundle.specs.Refusals.{CallRefuted}
use Rattle.kmipa_check.specs.Grants.{GrantsOf, GrantsNothing, grants_declared}
use Rattle.kmipa_places.specs.Calls.{ReadOf}
use Rattle.kmipa_ops.specs.declared.why.Why.{Why}
use Rattle.kmipa_turns.specs.Recorded.{RecordedOf, AreRecorded}
use Rattle.kmipa_turns.specs.Steps.{StepOf, TakenOf, takes, IsStep, moment_of, step_of}
use Rattle.kmipa_trail.specs.Leading.{AreKnown, deed_in}
use Rattle.kmipa_trail.specs.Owners.{in_sight}
use Rattle.kmipa_trail.specs.Placing.{Before}
use Rattle.kmipa_trail.specs.Tallies.{TallyOf}
use Rattle.kmipa_trail.specs.Verdicts.{IsAccepted}
use Rattle.kmipa_findings.specs.Boards.{IsBoard}
use Rattle.kmipa_findings.specs.Choices.{HasOrder, HaveEnded, bare_of}
use Rattle.kmipa_findings.specs.Findings.{IsUnexplained, SetsNothingAside}
use Rattle.kmipa_findings.specs.Seeking.{IsDecided}
use Rattle.kmipa_findings.specs.declared.board.Board.{Board}
use Rattle.kmipa_findings.specs.declared.descending.Descent.{Descent}
use Rattle.kmipa_findings.specs.declared.descending.End.{End}
use Rattle.kmipa_findings.specs.declared.descending.End.TheVariants as end
use Rattle.kmipa_findings.specs.declared.descending.Taken.{Taken}
use Rattle.kmipa_findings.specs.declared.descending.Visit.{Visit}
use Rattle.kmipa_findings.specs.declared.trial.Trial.{Trial}
use Rattle.kmipa_findings.specs.declared.trial.Way.{Way}
use Rattle.kmipa_findings.specs.declared.trial.Way.TheVariants.{Bare, Waits}

-- ---- calls as they are tried

-- the step of a call that waits for no payload
abbrev pub IsBareStep : Way → StepOf → Type 0
IsBareStep (Bare step) s = step_of step ≡ s
IsBareStep (Waits said) s = ⊥

-- the step of the call at this place
pub record IsStepAt (trials : List Trial) (place : ℕ) (s : StepOf) : Type 0 where
  pub trial : Trial
  pub there : slice_get trials place ≡ Some trial
  pub bare : IsBareStep trial.way s

-- the call at this place has no step by itself
abbrev pub HasNoStepAt : List Trial → ℕ → Type 0
HasNoStepAt trials place = (s : StepOf) → IsStepAt trials place s → ⊥

-- a call is tried by the step of its bare turn; or it has none
abbrev pub IsTried : GrantsOf → RecordedOf → Way → Type 0
IsTried g c (Bare step) = IsStep g c (bare_of c) (step_of step)
IsTried g c (Waits said) = (s : StepOf) → IsStep g c (bare_of c) s → ⊥

-- some call waits
pub record SomeWaits (trials : List Trial) : Type 0 where
  pub place : ℕ
  pub within : place < length trials
  pub none : HasNoStepAt trials place

-- these are all calls, as they are tried
pub record AreTried (g : GrantsOf) (calls : List RecordedOf) (trials : List Trial) : Type 0 where
  pub counted : length trials ≡ length calls
  pub each : (place : ℕ) (c : RecordedOf) (t : Trial) → slice_get calls place ≡ Some c → slice_get trials place ≡ Some t → IsTried g c t.way

-- some call has no step by its bare turn
pub record HasNoStep (g : GrantsOf) (calls : List RecordedOf) : Type 0 where
  pub place : ℕ
  pub call : RecordedOf
  pub there : slice_get calls place ≡ Some call
  pub none : (s : StepOf) → IsStep g call (bare_of call) s → ⊥

-- Of a transcript these are all calls. Each has ended, and has a step by its bare turn, whose items have their order. Nothing is granted, and each client
-- sees every object.
pub record AreSure (marks : List MarkOf) (declared : DeclarationOf) (calls : List RecordedOf) : Type 0 where
  pub right : Marks.AreRecorded marks
  pub are : AreRecorded marks calls
  pub ended : HaveEnded calls
  pub stepped : (place : ℕ) (c : RecordedOf) → slice_get calls place ≡ Some c → (s : StepOf) × IsStep (grants_declared declared) c (bare_of c) s × HasOrder s.taken
  pub nothing : GrantsNothing (grants_declared declared)
  pub seen : declared.settings.visibility ≡ Everyone

-- so they are tried
pub record IsSure (marks : List MarkOf) (declared : DeclarationOf) (trials : List Trial) : Type 0 where
  pub calls : List RecordedOf
  pub sure : AreSure marks declared calls
  pub tried : AreTried (grants_declared declared) calls trials

-- ---- where a search stands

-- the steps of the calls at these places, of which the last one stands first
abbrev pub way_steps : Way → List StepOf
way_steps (Bare step) = step_of step ∷ []
way_steps (Waits said) = []

abbrev pub step_or_none : Option Trial → List StepOf
step_or_none None = []
step_or_none (Some trial) = way_steps trial.way

abbrev pub steps_along : List Trial → List ℕ → List StepOf
steps_along trials [] = []
steps_along trials (place ∷ earlier) = steps_along trials earlier ++ step_or_none (slice_get trials place)

-- no accepted witness that sets nothing aside begins with these steps
abbrev pub IsDead : List MarkOf → DeclarationOf → List StepOf → Type 0
IsDead marks declared front = (turns : List TurnOf) (tally : TallyOf) (rest : List StepOf) → SetsNothingAside turns → (a : IsAccepted marks declared turns tally) → a.steps ≡ front ++ rest → ⊥

-- nor one that goes on with any of the calls at these places
abbrev pub AreDead : List MarkOf → DeclarationOf → List Trial → List ℕ → List ℕ → Type 0
AreDead marks declared trials taken refuted = (place : ℕ) → Contains refuted place → IsDead marks declared (steps_along trials (place ∷ taken))

-- behind these calls this is known, and at the mark of each what was known before it
abbrev pub KnownBy : DeclarationOf → List Trial → List ℕ → Meaning → List Meaning → Type 0
KnownBy declared trials [] m marks = AreKnown declared [] m
KnownBy declared trials (place ∷ earlier) m [] = ⊥
KnownBy declared trials (place ∷ earlier) m (n ∷ marks) = AreKnown declared (in_sight declared (steps_along trials (place ∷ earlier))) m × KnownBy declared trials earlier n marks

abbrev pub place_of : Visit → ℕ
place_of v = v.place

abbrev pub places_of : List Visit → List ℕ
places_of visits = map place_of visits

-- ahead of each call that is taken these are refuted, and it isn't taken twice
abbrev pub AreDeadBehind : List MarkOf → DeclarationOf → List Trial → List Visit → Type 0
AreDeadBehind marks declared trials [] = Unit {0}
AreDeadBehind marks declared trials (v ∷ earlier) =
    AreDead marks declared trials (places_of earlier) v.refuted.items × ((Contains (places_of earlier) v.place → ⊥) × AreDeadBehind marks declared trials earlier)

-- the calls that are taken, the last one first
abbrev pub visits_of : Descent → List Visit
visits_of d = reverse d.path.items

abbrev pub taken_in : Descent → List ℕ
taken_in d = places_of (visits_of d)

-- a search stands so, over a ledger: these calls are taken, the last one first, and with these it goes on nowhere
pub record StandsAt (marks : List MarkOf) (declared : DeclarationOf) (trials : List Trial) (visits : List Visit) (refuted : List ℕ) (b : Board) (s : LedgerState) : Type 0 where
  pub board : IsBoard (length trials) (places_of visits) b
  pub known : KnownBy declared trials (places_of visits) s.now s.marks
  pub dead : AreDead marks declared trials (places_of visits) refuted
  pub behind : AreDeadBehind marks declared trials visits

abbrev pub Stands : List MarkOf → DeclarationOf → List Trial → Descent → LedgerState → Type 0
Stands marks declared trials d s = StandsAt marks declared trials (visits_of d) d.refuted.items d.board s

-- so that none explains every answer
abbrev pub IsUnexplainedBy : List MarkOf → DeclarationOf → List Trial → Type 0
IsUnexplainedBy marks declared trials = IsSure marks declared trials → IsUnexplained marks declared

-- ---- how it ends

-- where payloads are guessed that isn't sure; and where all was tried no order explains every answer
abbrev pub EndsBy : List MarkOf → DeclarationOf → List Trial → End → Type 0
EndsBy marks declared trials (end.Whole path) = path.guessed ≡ true → IsSure marks declared trials → ⊥
EndsBy marks declared trials end.Exhausted = IsUnexplainedBy marks declared trials
EndsBy marks declared trials end.Spent = Unit {0}
EndsBy marks declared trials (end.Over after) = Unit {0}

-- the same of these calls
abbrev pub EndsRightly : List MarkOf → DeclarationOf → List RecordedOf → End → Type 0
EndsRightly marks declared calls (end.Whole path) = path.guessed ≡ true → AreSure marks declared calls → ⊥
EndsRightly marks declared calls end.Exhausted = AreSure marks declared calls → IsUnexplained marks declared
EndsRightly marks declared calls end.Spent = Unit {0}
EndsRightly marks declared calls (end.Over after) = Unit {0}

-- the same of a recording that is plain beside what is set aside
abbrev pub EndsPlainly : List MarkOf → DeclarationOf → End → Type 0
EndsPlainly marks declared (end.Whole path) = path.guessed ≡ true → IsDecided marks declared
EndsPlainly marks declared end.Exhausted = IsDecided marks declared
EndsPlainly marks declared end.Spent = Unit {0}
EndsPlainly marks declared (end.Over after) = Unit {0}

-- ---- a step that is tried

-- from what was known it leads to what is known then; or no world that was known has it
abbrev pub TriesTrial : RulesOf → TakenOf → LedgerState → Option Taken → LedgerState → Type 0
TriesTrial rules taken s (Some t) u = Explains (DoesDeed rules (deed_in taken)) (TellsDeed (deed_in taken)) s.now empty u.now empty
TriesTrial rules taken s None u =
    (c : ReadOf) × (places : Option (List ℕ)) × (item : ℕ) × (why : Why) × (taken ≡ takes c places) × CallRefuted rules s.now c (order_given places) item why

-- ---- where no call may be next

-- one call has a lower moment than another
pub record RunsAhead (other call : StepOf) : Type 0 where
  pub moment : ℤ
  pub has : moment_of other ≡ Some moment
  pub last : ℤ
  pub had : moment_of call ≡ Some last
  pub less : moment <ℤ last

-- a call that is left, besides the one at this place
pub record IsLeftBy (P : StepOf → StepOf → Type 0) (trials : List Trial) (taken : List ℕ) (place : ℕ) : Type 0 where
  pub other : ℕ
  pub left : Contains taken other → ⊥
  pub differs : other ≡ place → ⊥
  pub a : StepOf
  pub at : IsStepAt trials other a
  pub b : StepOf
  pub here : IsStepAt trials place b
  pub ahead : P a b

-- it ended before that began, and stands ahead of it
abbrev pub EndedBefore : List Trial → List ℕ → ℕ → Type 0
EndedBefore trials taken place = (l : IsLeftBy Before trials taken place) × (l.other < place)

-- it has a lower moment
abbrev pub RanBefore : List Trial → List ℕ → ℕ → Type 0
RanBefore trials taken place = IsLeftBy RunsAhead trials taken place

-- the call at this place is taken, or refuted, or waits, or it can't be next
pub data IsCovered (trials : List Trial) (taken refuted : List ℕ) (place : ℕ) : Type 0 where
  is_taken : Contains taken place → IsCovered trials taken refuted place
  is_refuted : Contains refuted place → IsCovered trials taken refuted place
  waits : HasNoStepAt trials place → IsCovered trials taken refuted place
  late : EndedBefore trials taken place → IsCovered trials taken refuted place
  back : RanBefore trials taken place → IsCovered trials taken refuted place

abbrev pub AreCovered : List Trial → List ℕ → List ℕ → Type 0
AreCovered trials taken refuted = (place : ℕ) (t : Trial) → slice_get trials place ≡ Some t → IsCovered trials taken refuted place

-- some call is left, and none of these leads on
pub record IsExhausted (trials : List Trial) (d : Descent) : Type 0 where
  pub left : d.board.low < length trials
  pub covered : AreCovered trials (taken_in d) d.refuted.items

-- the calls stand in the order of their begin marks
abbrev pub AreRisingTrials : List Trial → Type 0
AreRisingTrials trials = (place later : ℕ) (a b : StepOf) → place < later → IsStepAt trials place a → IsStepAt trials later b → a.begin ≤ b.begin

-- so do the first of them, and none of these begins behind this mark
pub record AreRisingUpTo (trials : List Trial) (count most : ℕ) : Type 0 where
  pub each : (place : ℕ) (a : StepOf) → place < count → IsStepAt trials place a → a.begin ≤ most
  pub two : (place later : ℕ) (a b : StepOf) → place < later → later < count → IsStepAt trials place a → IsStepAt trials later b → a.begin ≤ b.begin
