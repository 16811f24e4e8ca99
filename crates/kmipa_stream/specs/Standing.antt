-- What an audit knows of a transcript that is still coming. Not promised.
use Rattle.std.specs.Prelude.{◌≡◌, ◌≢◌, ◌<◌, ◌⊎◌, ℕ, ℤ, pos, ◌≤ℤ◌, IsTrue, Bool, false, List, [], ◌∷◌, ◌++◌, length, map, Option, Some, None, slice_get, Result, Ok, Err, IfOk}
use Rattle.kmipa_ttlv.specs.Input.{came_of, is_ended}
use Rattle.kmipa_ttlv.specs.declared.input.Input.{Input}
use Rattle.kmipa_record.specs.Marks.{MarkOf, AreRecorded}
use Rattle.kmipa_record.specs.Transcripts.{IsTranscript}
use Rattle.kmipa_record.specs.TranscriptReading.{IsKnownBy}
use Rattle.kmipa_record.specs.Declarations.{DeclarationOf}
use Rattle.kmipa_record.specs.Witnesses.{TurnOf, turn_of}
use Rattle.kmipa_record.specs.declared.turn.Turn.{Turn}
use Rattle.kmipa_check.specs.Orders.{IsNamed}
use Rattle.kmipa_check.specs.Stamps.{IsAnsweredAt}
use Rattle.kmipa_check.specs.Verdicts.{Checks, TellsVerdict}
use Rattle.kmipa_check.specs.declared.fault.CheckFault.{CheckFault}
use Rattle.kmipa_check.specs.declared.fault.CheckFault.TheVariants as check_fault
use Rattle.kmipa_check.specs.declared.fault.WitnessKind.TheVariants.{LeftOut}
use Rattle.kmipa_check.specs.declared.verdict.Verdict.{Verdict}
use Rattle.kmipa_check.specs.declared.verdict.Verdict.TheVariants.{Yes, No}
use Rattle.kmipa_stream.specs.Ahead.{WasRead, IsFound}
use Rattle.kmipa_stream.specs.Counting.{AreCounted, TalliesSo}
use Rattle.kmipa_stream.specs.Replaying.{Replays, IsAtEnd}
use Rattle.kmipa_stream.specs.Seeing.{AreSeen}
use Rattle.kmipa_stream.specs.Waiting.{Wait}
use Rattle.kmipa_stream.specs.declared.auditor.Auditor.{Auditor}
use Rattle.kmipa_stream.specs.declared.counts.Counts.{Counts}
use Rattle.kmipa_stream.specs.declared.judged.Judged.{Judged}
use Rattle.kmipa_stream.specs.declared.lowest.Found.{Found}
use Rattle.kmipa_stream.specs.declared.replaying.Replay.{Replay}
use Rattle.kmipa_stream.specs.declared.seen.SeenCall.{SeenCall}
use Rattle.kmipa_stream.specs.declared.seen.Held.TheVariants.{Released}
use Rattle.kmipa_stream.specs.declared.stamped.Stamped.{Stamped}

-- each call of which nothing is held was read
abbrev pub WereRead : Bool → List MarkOf → Option Found → List SeenCall → Type 0
WereRead closed marks lowest calls = (place : ℕ) (s : SeenCall) → slice_get calls place ≡ Some s → s.held ≡ Released → WasRead closed marks lowest s.begin

-- what an audit knows after these marks is right
pub record Stands (closed : Bool) (marks : List MarkOf) (turns : List Turn) (declared : DeclarationOf) (a : Auditor) : Type 0 where
  pub seen : AreSeen marks a.seen
  pub ends : Wait marks turns a.replay.formed a.ends
  pub read : WereRead closed marks a.lowest a.seen.calls.items
  pub found : IsFound marks a.lowest
  pub replay : Replays closed marks turns declared a.replay

-- the date that is told of a no is that at which its call was answered
abbrev pub DatesSo : List MarkOf → List TurnOf → Verdict → Option ℤ → Type 0
DatesSo marks turns Yes stamp = Unit {0}
DatesSo marks turns (No refused) stamp = (date : ℤ) × (stamp ≡ Some date) × IsAnsweredAt marks turns refused.call date

-- the number that is told of a yes is that of the items judged, and it tells what became of them; of a no neither is promised
abbrev pub CountsSo : List MarkOf → DeclarationOf → List TurnOf → Verdict → Counts → Type 0
CountsSo marks declared turns Yes counts = AreCounted marks declared turns counts.items × TalliesSo marks declared turns counts.tally
CountsSo marks declared turns (No refused) counts = Unit {0}

-- what is answered of these records
abbrev pub Judges : List MarkOf → DeclarationOf → List TurnOf → Result Stamped CheckFault → Type 0
Judges marks declared turns (Ok stamped) =
    TellsVerdict marks declared turns stamped.verdict × DatesSo marks turns stamped.verdict stamped.stamp × CountsSo marks declared turns stamped.verdict stamped.counts
Judges marks declared turns (Err fault) = Checks marks declared turns (Err fault)

-- ---- the parts

-- an audit of which something is known
pub record Standing (closed : Bool) (a : Auditor) : Type 0 where
  pub marks : List MarkOf
  pub turns : List Turn
  pub declared : DeclarationOf
  pub stands : Stands closed marks turns declared a

-- the same, where this mark may come next
pub record MayTake (a : Auditor) (mark : MarkOf) : Type 0 where
  pub marks : List MarkOf
  pub turns : List Turn
  pub declared : DeclarationOf
  pub stands : Stands false marks turns declared a
  pub recorded : AreRecorded (marks ++ mark ∷ [])

-- no turn is to make its step any more: a message is outside, or the replay is at its end
abbrev pub IsDoneBy : Replay → Option Found → Type 0
IsDoneBy replay None = IsAtEnd replay replay.finding
IsDoneBy replay (Some found) = Unit {0}

abbrev pub IsDone : Auditor → Type 0
IsDone a = IsDoneBy a.replay a.lowest

-- nothing is held of any call
abbrev pub AreAllReleased : List SeenCall → Type 0
AreAllReleased calls = (place : ℕ) (s : SeenCall) → slice_get calls place ≡ Some s → s.held ≡ Released

-- nothing is held of the call at this place any more, and the others are as before
pub record LetsGoAt (old new : List SeenCall) (place : ℕ) : Type 0 where
  pub long : length new ≡ length old
  pub each : (other : ℕ) (s : SeenCall) → slice_get new other ≡ Some s → (s.held ≡ Released) ⊎ ((other ≢ place) × (slice_get old other ≡ Some s))

-- the call has ended, and no turn names it
pub record IsUnnamed (turns : List Turn) (s : SeenCall) : Type 0 where
  pub end : ℕ
  pub ended : s.end ≡ Some end
  pub unnamed : IsNamed (map turn_of turns) s.number → ⊥

-- none of the first so many calls is left out
abbrev pub NoneUnnamed : List Turn → List SeenCall → ℕ → Type 0
NoneUnnamed turns calls count = (place : ℕ) (s : SeenCall) → place < count → slice_get calls place ≡ Some s → IsUnnamed turns s → ⊥

-- the number of the first call that is left out, if one is
abbrev pub IsFirstLeftOut : List Turn → List SeenCall → Option ℤ → Type 0
IsFirstLeftOut turns calls None = NoneUnnamed turns calls (length calls)
IsFirstLeftOut turns calls (Some number) =
    (place : ℕ) × ((s : SeenCall) × (slice_get calls place ≡ Some s) × (s.number ≡ number) × IsUnnamed turns s) × NoneUnnamed turns calls place

-- what is told of it
abbrev pub TellsLeftOut : List Turn → List SeenCall → CheckFault → Type 0
TellsLeftOut turns calls (check_fault.Witness f) =
    (number : ℤ) × IsFirstLeftOut turns calls (Some number) × (pos 1 ≤ℤ number → number ≡ pos f.at) × (f.kind ≡ LeftOut)
TellsLeftOut turns calls (check_fault.Outside number side o) = ⊥
TellsLeftOut turns calls check_fault.Memory = Unit {0}

-- the same without the head
abbrev pub stamped_alone : Result Judged CheckFault → Result Stamped CheckFault
stamped_alone (Ok judged) = Ok (record { verdict = judged.verdict; stamp = judged.stamp; counts = record { items = judged.items; tally = judged.tally } })
stamped_alone (Err fault) = Err fault

-- a transcript came, to the end that was seen, and this is answered of it, with what it is known by
pub record IsJudged {R : Type 0} (i : Input R) (declared : DeclarationOf) (turns : List TurnOf) (answer : Result Judged CheckFault) : Type 0 where
  pub marks : List MarkOf
  pub transcript : IsTranscript (came_of i) marks
  pub ended : IsTrue (is_ended i)
  pub judged : Judges marks declared turns (stamped_alone answer)
  pub known : IfOk answer (λ judged. IsKnownBy (came_of i) marks judged.head)
