-- HOW MANY PLACES OF A CALL ARE JUDGED, and by what the others aren't (profile).
use Rattle.std.specs.Prelude.{◌≡◌, ℕ, ◌+◌, ℤ, Bool, true, false, if◌then◌else◌, List, [], ◌∷◌, Option, Some, None, Result, Ok, Err}
use Rattle.kmipa_store.specs.Ledger.{Meaning, LedgerState}
use Rattle.kmipa_store.specs.Choices.{Choice, Chooses}
use Rattle.kmipa_msgs.specs.declared.operation.Operation.{Operation}
use Rattle.kmipa_msgs.specs.Messages.{RulesOf, operation_asked}
use Rattle.kmipa_msgs.specs.Operations.{operation_of}
use Rattle.kmipa_passed.specs.Leaving.{HeldOf, empty}
use Rattle.kmipa_aside.specs.Becoming.{stand_in}
use Rattle.kmipa_aside.specs.Cases.{case}
use Rattle.kmipa_aside.specs.Explains.{world}
use Rattle.kmipa_aside.specs.Sights.{SightOf}
use Rattle.kmipa_aside.specs.Standing.{StandOf}
use Rattle.kmipa_aside.specs.Worlds.{WorldOf, stand}
use Rattle.kmipa_aside.specs.declared.case.Case.{Case}
use Rattle.kmipa_aside.specs.declared.case.Case.TheVariants.{Over, AboutAside, AboutUnknown, NameMayBeTaken, AsEver}
use Rattle.kmipa_places.specs.Calls.{ReadOf}
use Rattle.kmipa_places.specs.Counting.{is_judged_operation}
use Rattle.kmipa_places.specs.Places.{PlaceOf, judged, passed}
use Rattle.kmipa_places.specs.declared.place.By.{By}
use Rattle.kmipa_places.specs.declared.place.By.TheVariants.{Request, Answer, Witness}
use Rattle.kmipa_bundle.specs.Bundles.{DoesPlace, places_taken, sight_on}
use Rattle.kmipa_bundle.specs.declared.counts.Counts.{Counts}
use Rattle.kmipa_bundle.specs.declared.ruling.Ruling.{Ruling}
use Rattle.kmipa_bundle.specs.declared.ruling.Ruling.TheVariants.{ByRequest, ByAnswer, ByWitness, ByObject, Judged}

-- ---- one place

abbrev pub ruling_passed : By → Ruling
ruling_passed Request = ByRequest
ruling_passed Answer = ByAnswer
ruling_passed Witness = ByWitness

-- a judged place that is about what is set aside, or where nobody can tell about what, isn't judged
abbrev pub ruling_by : Case → Ruling
ruling_by Over = ByObject
ruling_by AboutAside = ByObject
ruling_by AboutUnknown = ByObject
ruling_by NameMayBeTaken = Judged
ruling_by AsEver = Judged

-- an item that asks for none of the operations that are judged counts by its request, whatever else
abbrev pub if_asked : Operation → Ruling → Ruling
if_asked operation ruling = if is_judged_operation operation then ruling else ByRequest

abbrev pub ruling_of : RulesOf → StandOf → HeldOf → PlaceOf → Ruling
ruling_of rules s before (judged ask answer) = if_asked (operation_asked ask.asked) (ruling_by (case rules s before ask answer))
ruling_of rules s before (passed by p) = if_asked (operation_of p.asks) (ruling_passed by)

-- ---- how many

pub record CountsOf : Type 0 where
  pub request : ℕ
  pub answer : ℕ
  pub witness : ℕ
  pub object : ℕ
  pub judged : ℕ

abbrev pub counts_of : Counts → CountsOf
counts_of n = record { request = n.by_request; answer = n.by_answer; witness = n.by_witness; object = n.by_object; judged = n.judged }

abbrev pub no_counts : CountsOf
no_counts = record { request = 0; answer = 0; witness = 0; object = 0; judged = 0 }

abbrev pub total : CountsOf → ℕ
total n = n.request + n.answer + n.witness + n.object + n.judged

-- one more
abbrev pub counted : Ruling → CountsOf → CountsOf
counted ByRequest n = record n { request = n.request + 1 }
counted ByAnswer n = record n { answer = n.answer + 1 }
counted ByWitness n = record n { witness = n.witness + 1 }
counted ByObject n = record n { object = n.object + 1 }
counted Judged n = record n { judged = n.judged + 1 }

-- the one that is there, if there is one
abbrev pub counted_there : RulesOf → StandOf → HeldOf → Option PlaceOf → CountsOf → CountsOf
counted_there rules s before None n = n
counted_there rules s before (Some place) n = counted (ruling_of rules s before place) n

-- ---- along a call

-- the places are done one after the other, and each is counted as it stands when it is done
abbrev pub CountsAlong : SightOf → ℤ → List PlaceOf → WorldOf → HeldOf → CountsOf → WorldOf → HeldOf → CountsOf → Type 0
CountsAlong sight t [] w before n w' after n' = (w' ≡ w) × (after ≡ before) × (n' ≡ n)
CountsAlong sight t (place ∷ places) w before n w' after n' =
    (v : WorldOf) × (between : HeldOf) × DoesPlace sight t place w before v between
    × CountsAlong sight t places v between (counted (ruling_of sight.rules (stand w) before place) n) w' after n'

-- so in each world that the ledger stood for: from `m` to `n`
abbrev pub Counted : SightOf → ℤ → Meaning → HeldOf → CountsOf → List PlaceOf → Meaning → HeldOf → CountsOf → Type 0
Counted sight t m before k places n after k' = (c : Choice) → Chooses n.secrets c → CountsAlong sight t places (world c m) before k (world c n) after k'

-- of a message that is refused as a whole the first place counts as it stands
abbrev pub counts_first : RulesOf → StandOf → List PlaceOf → CountsOf
counts_first rules s [] = no_counts
counts_first rules s (place ∷ places) = counted (ruling_of rules s empty place) no_counts

-- by whether the response refuses the whole message: what is counted of a call that led the ledger from `s` to `u`
abbrev pub CountsBy : Bool → RulesOf → LedgerState → ReadOf → Option (List ℕ) → CountsOf → LedgerState → Type 0
CountsBy true rules s c order k u = k ≡ counts_first rules (stand_in s.now) c.places
CountsBy false rules s c order k u =
    (d : Choice) → Chooses u.now.secrets d → (last : WorldOf) × (held : HeldOf) × CountsAlong (sight_on rules c) c.stamp (places_taken c order) (world d s.now) empty no_counts last held k

abbrev pub CallCounted : {E : Type 0} → RulesOf → LedgerState → ReadOf → Option (List ℕ) → Result Counts E → LedgerState → Type 0
CallCounted rules s c order (Ok k) u = CountsBy c.refused rules s c order (counts_of k) u
CallCounted rules s c order (Err e) u = Unit {0}
