-- WHAT A CHECK TELLS, where some of what was recorded isn't judged (profile).
use Rattle.std.specs.Prelude.{◌≡◌, ℕ, ◌+◌, ℤ, false, List, length, take, Option, Some, Result, Ok, Err, slice_get}
use Rattle.kmipa_store.specs.Ledger.{Meaning}
use Rattle.kmipa_msgs.specs.Messages.{RulesOf}
use Rattle.kmipa_record.specs.Marks.{MarkOf}
use Rattle.kmipa_record.specs.Declarations.{DeclarationOf}
use Rattle.kmipa_record.specs.Witnesses.{TurnOf}
use Rattle.kmipa_ops.specs.declared.why.Why.{Why}
use Rattle.kmipa_ops.specs.declared.why.Why.TheVariants.{EarlierCallLate, StampRunsBack}
use Rattle.kmipa_batch.specs.Orders.{order_given}
use Rattle.kmipa_passed.specs.Leaving.{HeldOf, empty}
use Rattle.kmipa_aside.specs.Worlds.{WorldOf}
use Rattle.kmipa_bundle.specs.Bundles.{DoesPlace, places_taken, sight_on}
use Rattle.kmipa_bundle.specs.Deeds.{ChainOf}
use Rattle.kmipa_bundle.specs.Refusals.{AreShapedFor, SpeaksAt}
use Rattle.kmipa_places.specs.Calls.{ReadOf}
use Rattle.kmipa_check.specs.Grants.{grants_declared}
use Rattle.kmipa_check.specs.Runs.{rules_declared}
use Rattle.kmipa_check.specs.declared.verdict.Refused.{Refused}
use Rattle.kmipa_turns.specs.Recorded.{RecordedOf, AreRecorded}
use Rattle.kmipa_turns.specs.Steps.{StepOf, takes}
use Rattle.kmipa_trail.specs.Opening.{DescribesWorld}
use Rattle.kmipa_trail.specs.Leading.{Leads, AreKnown}
use Rattle.kmipa_trail.specs.Orders.{IsOrder, WitnessFaultAt}
use Rattle.kmipa_trail.specs.Owners.{in_sight}
use Rattle.kmipa_trail.specs.Placing.{ArePlaced, IsPlacedAt, IsLate, RunsBack}
use Rattle.kmipa_trail.specs.Tallies.{TallyOf, Tallies, no_tally}
use Rattle.kmipa_trail.specs.Told.{tally_of}
use Rattle.kmipa_trail.specs.declared.fault.Fault.{Fault}
use Rattle.kmipa_trail.specs.declared.fault.Fault.TheVariants.{Witness, Memory}
use Rattle.kmipa_trail.specs.declared.verdict.Verdict.{Verdict}
use Rattle.kmipa_trail.specs.declared.verdict.Verdict.TheVariants.{Yes, No}

-- ---- yes

-- The witness is formed for the calls of the transcript. Its steps, each with what may be hidden from its client, are placed, and some world that the
-- declaration describes has a run of all calls by these steps, which gives every recorded response that is judged; and so many are.
pub record IsAccepted (marks : List MarkOf) (declared : DeclarationOf) (turns : List TurnOf) (tally : TallyOf) : Type 0 where
  pub calls : List RecordedOf
  pub are : AreRecorded marks calls
  pub steps : List StepOf
  pub order : IsOrder (grants_declared declared) calls turns steps
  pub placed : ArePlaced (in_sight declared steps) (length (in_sight declared steps))
  pub start : WorldOf
  pub described : DescribesWorld declared start
  pub last : WorldOf
  pub linked : Leads (rules_declared declared) start (in_sight declared steps) last
  pub tallied : Tallies (rules_declared declared) start no_tally (in_sight declared steps) last tally

-- ---- no

-- from some described world the first turns are placed and linked
pub record ArePossible (declared : DeclarationOf) (order : List StepOf) (count : ℕ) : Type 0 where
  pub placed : ArePlaced order count
  pub start : WorldOf
  pub described : DescribesWorld declared start
  pub last : WorldOf
  pub linked : Leads (rules_declared declared) start (take count order) last

-- from a world the first places of a call are done, in its order, and the shapes that are judged by then are right
pub record GoesUpTo (rules : RulesOf) (w : WorldOf) (c : ReadOf) (order : Option (List ℕ)) (count : ℕ) : Type 0 where
  pub shaped : AreShapedFor c count
  pub left : WorldOf
  pub held : HeldOf
  pub chain : ChainOf (DoesPlace (sight_on rules c) c.stamp) (take count (places_taken c order)) w empty left held

-- besides the turns before it, this turn is placed, and the first places of its call are done
pub record ArePossibleUpTo (declared : DeclarationOf) (order : List StepOf) (turn : ℕ) (s : StepOf) (c : ReadOf) (places : Option (List ℕ)) (count : ℕ) : Type 0 where
  pub placed : ArePlaced order turn
  pub here : IsPlacedAt order turn s
  pub start : WorldOf
  pub described : DescribesWorld declared start
  pub before : WorldOf
  pub linked : Leads (rules_declared declared) start (take turn order) before
  pub items : GoesUpTo (rules_declared declared) before c (order_given places) count

-- the turn is impossible where it stands, for the lower of two reasons
pub data RefusedPlace (order : List StepOf) (turn : ℕ) (s : StepOf) (why : Why) : Type 0 where
  late : IsLate order turn s → why ≡ EarlierCallLate → RefusedPlace order turn s why
  runs_back : (IsLate order turn s → ⊥) → RunsBack order turn s → why ≡ StampRunsBack → RefusedPlace order turn s why

-- It takes a call that can be read, and whose message wasn't refused: so many of its places are possible, with one more they are not, and this item, counted
-- from 1, is reported with the lowest reason.
pub record RefusedItem (declared : DeclarationOf) (order : List StepOf) (turn : ℕ) (s : StepOf) (item : ℕ) (why : Why) : Type 0 where
  pub call : ReadOf
  pub places : Option (List ℕ)
  pub taken : s.taken ≡ takes call places
  pub unrefused : call.refused ≡ false
  pub count : ℕ
  pub before : ArePossibleUpTo declared order turn s call places count
  pub never : ArePossibleUpTo declared order turn s call places (count + 1) → ⊥
  pub known : Meaning
  pub knows : AreKnown declared (take turn order) known
  pub speaks : SpeaksAt (rules_declared declared) known call (order_given places) count item why

-- where the turn is refused: itself, item 0, or at an item, counted from 1
pub data RefusedAt (declared : DeclarationOf) (order : List StepOf) (turn : ℕ) (s : StepOf) (item : ℕ) (why : Why) : Type 0 where
  in_place : item ≡ 0 → RefusedPlace order turn s why → RefusedAt declared order turn s item why
  in_item : RefusedItem declared order turn s item why → RefusedAt declared order turn s item why

-- the turns before are possible, and this one, counted from 1, of this call, is refused there; its response has this Time Stamp, none where the call can't
-- be read
pub record IsRefused (declared : DeclarationOf) (order : List StepOf) (r : Refused) (stamp : Option ℤ) : Type 0 where
  pub turn : ℕ
  pub reported : r.turn ≡ turn + 1
  pub step : StepOf
  pub there : slice_get order turn ≡ Some step
  pub number : step.number ≡ r.call
  pub dated : stamp ≡ step.stamp
  pub before : ArePossible declared order turn
  pub refused : RefusedAt declared order turn step r.item r.why

-- ---- the check

abbrev pub TellsVerdict : List MarkOf → DeclarationOf → List TurnOf → Verdict → Type 0
TellsVerdict marks declared turns (Yes tally) = IsAccepted marks declared turns (tally_of tally)
TellsVerdict marks declared turns (No r stamp) =
    (calls : List RecordedOf) × AreRecorded marks calls × ((order : List StepOf) × IsOrder (grants_declared declared) calls turns order × IsRefused declared (in_sight declared order) r stamp)

-- what a check answers: a verdict; or the fault of the witness
abbrev pub Checks : List MarkOf → DeclarationOf → List TurnOf → Result Verdict Fault → Type 0
Checks marks declared turns (Ok verdict) = TellsVerdict marks declared turns verdict
Checks marks declared turns (Err (Witness f)) = (calls : List RecordedOf) × AreRecorded marks calls × WitnessFaultAt (grants_declared declared) calls turns f.at f.kind
Checks marks declared turns (Err Memory) = Unit {0}
