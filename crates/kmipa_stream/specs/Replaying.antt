-- A replay whose transcript is still coming: what is known of each transcript ahead. Not promised.
use Rattle.std.specs.Prelude.{◌≡◌, ◌≤◌, ℕ, ℤ, Bool, List, length, map, take, Option, Some, None}
use Rattle.kmipa_ttlv.specs.Stream.{capped}
use Rattle.kmipa_store.specs.Choices.{IsSound}
use Rattle.kmipa_store.specs.Ledger.{Meaning}
use Rattle.kmipa_store.specs.States.{state_of_journal}
use Rattle.kmipa_store.specs.declared.journal.Journal.{Journal}
use Rattle.kmipa_msgs.specs.Messages.{rules_of}
use Rattle.kmipa_msgs.specs.declared.rules.Unjudged.{Unjudged}
use Rattle.kmipa_msgs.specs.declared.rules.Unjudged.TheVariants.{Refused as ends}
use Rattle.kmipa_record.specs.Marks.{MarkOf}
use Rattle.kmipa_record.specs.Declarations.{DeclarationOf}
use Rattle.kmipa_record.specs.Witnesses.{turn_of}
use Rattle.kmipa_record.specs.declared.turn.Turn.{Turn}
use Rattle.kmipa_check.specs.Calls.{CallOf, AreCalls, IsRecorded}
use Rattle.kmipa_check.specs.Grants.{GrantsOf, grants_declared}
use Rattle.kmipa_check.specs.Orders.{AreFormedBelow, IsFormed, IsOrder, TurnFault, WitnessFaultAt}
use Rattle.kmipa_check.specs.Replays.{Replayed}
use Rattle.kmipa_check.specs.Runs.{rules_declared}
use Rattle.kmipa_check.specs.Stamps.{IsAnsweredAt}
use Rattle.kmipa_check.specs.Steps.{StepOf}
use Rattle.kmipa_check.specs.Verdicts.{IsRefused}
use Rattle.kmipa_check.specs.declared.fault.WitnessFault.{WitnessFault}
use Rattle.kmipa_check.specs.declared.fault.WitnessKind.{WitnessKind}
use Rattle.kmipa_check.specs.declared.verdict.Refused.{Refused}
use Rattle.kmipa_stream.specs.Ahead.{IsAhead}
use Rattle.kmipa_stream.specs.Counting.{items_in, tally_of}
use Rattle.kmipa_stream.specs.Steps.{IsLastMoment}
use Rattle.kmipa_stream.specs.Waiting.{AreNamedAt}
use Rattle.kmipa_stream.specs.declared.counts.Counts.{Counts}
use Rattle.kmipa_stream.specs.declared.replaying.Finding.{Finding}
use Rattle.kmipa_stream.specs.declared.replaying.Finding.TheVariants.{Possible, No, Faulty}
use Rattle.kmipa_stream.specs.declared.replaying.Replay.{Replay}
use Rattle.kmipa_stream.specs.declared.tally.Tally.{Tally}

-- in each transcript ahead all of whose messages are inside, the first so many turns are formed
abbrev pub FormAhead : Bool → List MarkOf → List Turn → DeclarationOf → ℕ → Type 0
FormAhead closed marks turns declared count =
    (all : List MarkOf) (calls : List CallOf) → IsAhead closed marks all → AreCalls all calls → AreFormedBelow (grants_declared declared) calls (map turn_of turns) count

-- what becomes of the items of these steps, where this becomes of what isn't judged
abbrev pub tally_under : Unjudged → List StepOf → Option Tally
tally_under ends steps = None
tally_under unjudged steps = Some (tally_of steps)

-- what is counted of these steps
abbrev pub counts_under : Unjudged → List StepOf → Counts
counts_under unjudged steps = record { items = capped (items_in steps); tally = tally_under unjudged steps }

-- the first steps are replayed, this is the moment of the last, and this is counted of them
pub record GoesOn (declared : DeclarationOf) (order : List StepOf) (count : ℕ) (last : Option ℤ) (counts : Counts) (m : Meaning) : Type 0 where
  pub replayed : Replayed declared order count m
  pub stamped : IsLastMoment order count last
  pub counted : counts ≡ counts_under declared.settings.unjudged (take count order)

-- of each such transcript, and each order by the turns
abbrev pub GoesOnAhead : Bool → List MarkOf → List Turn → DeclarationOf → ℕ → Option ℤ → Counts → Meaning → Type 0
GoesOnAhead closed marks turns declared count last counts m =
    (all : List MarkOf) (calls : List CallOf) (order : List StepOf) → IsAhead closed marks all → AreCalls all calls → IsOrder (grants_declared declared) calls (map turn_of turns) order
    → GoesOn declared order count last counts m

abbrev pub RefusesAhead : Bool → List MarkOf → List Turn → DeclarationOf → Refused → Type 0
RefusesAhead closed marks turns declared refused =
    (all : List MarkOf) (calls : List CallOf) (order : List StepOf) → IsAhead closed marks all → AreCalls all calls → IsOrder (grants_declared declared) calls (map turn_of turns) order
    → IsRefused declared order refused

-- in each transcript ahead the call was answered then
abbrev pub AnswersAhead : Bool → List MarkOf → List Turn → ℤ → ℤ → Type 0
AnswersAhead closed marks turns call stamp = (all : List MarkOf) → IsAhead closed marks all → IsAnsweredAt all (map turn_of turns) call stamp

abbrev pub FaultyAhead : Bool → List MarkOf → List Turn → DeclarationOf → WitnessFault → Type 0
FaultyAhead closed marks turns declared f =
    (all : List MarkOf) (calls : List CallOf) → IsAhead closed marks all → AreCalls all calls → WitnessFaultAt (grants_declared declared) calls (map turn_of turns) f.at f.kind

-- what was found of the first so many turns is right
abbrev pub FindsSo : Bool → List MarkOf → List Turn → DeclarationOf → ℕ → Option ℤ → Counts → Meaning → Finding → Type 0
FindsSo closed marks turns declared count last counts m Possible = IsSound m × GoesOnAhead closed marks turns declared count last counts m
FindsSo closed marks turns declared count last counts m (No refused stamp) = RefusesAhead closed marks turns declared refused × AnswersAhead closed marks turns refused.call stamp
FindsSo closed marks turns declared count last counts m (Faulty f) = FaultyAhead closed marks turns declared f

-- what a replay's ledger means
abbrev pub meaning_in : Journal → Meaning
meaning_in ledger = (state_of_journal ledger).now

-- what the declaration of a replay grants
abbrev pub grants_kept : Replay → GrantsOf
grants_kept r = record { tolerance = r.tolerance; own = r.own.items }

-- what a replay knows is right
pub record Replays (closed : Bool) (marks : List MarkOf) (turns : List Turn) (declared : DeclarationOf) (r : Replay) : Type 0 where
  pub same : r.turns.now ≡ turns
  pub named : AreNamedAt turns r.named
  pub rules : rules_of r.rules ≡ rules_declared declared
  pub grants : grants_kept r ≡ grants_declared declared
  pub within : r.formed ≤ length turns
  pub formed : FormAhead closed marks turns declared r.formed
  pub finding : FindsSo closed marks turns declared r.formed r.last r.counts (meaning_in r.ledger) r.finding

-- a call that is recorded so in each transcript ahead
abbrev pub IsRecordedAhead : Bool → List MarkOf → CallOf → Type 0
IsRecordedAhead closed marks c = (all : List MarkOf) → IsAhead closed marks all → IsRecorded all c

-- in each transcript ahead all of whose messages are inside the turn at this place makes this step
abbrev pub FormsAhead : Bool → List MarkOf → List Turn → DeclarationOf → ℕ → StepOf → Type 0
FormsAhead closed marks turns declared place s =
    (all : List MarkOf) (calls : List CallOf) → IsAhead closed marks all → AreCalls all calls → IsFormed (grants_declared declared) calls (map turn_of turns) place s

-- the turn at this place is faulty in this way
abbrev pub RefusesTurnAhead : Bool → List MarkOf → List Turn → DeclarationOf → ℕ → WitnessKind → Type 0
RefusesTurnAhead closed marks turns declared place kind =
    (all : List MarkOf) (calls : List CallOf) → IsAhead closed marks all → AreCalls all calls → TurnFault (grants_declared declared) calls (map turn_of turns) place kind

-- a replay of which something is known
pub record Replaying (r : Replay) : Type 0 where
  pub closed : Bool
  pub marks : List MarkOf
  pub turns : List Turn
  pub declared : DeclarationOf
  pub replays : Replays closed marks turns declared r

-- no turn is to make its step any more: one is faulty, or all have made theirs
abbrev pub IsAtEnd : Replay → Finding → Type 0
IsAtEnd r (Faulty f) = Unit {0}
IsAtEnd r (No refused stamp) = length r.turns.now ≤ r.formed
IsAtEnd r Possible = length r.turns.now ≤ r.formed
