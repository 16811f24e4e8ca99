-- WHAT A JUDGED PLACE OF A CALL DOES, where some of what the call is about may be set aside (profile).
use Rattle.std.specs.Prelude.{◌≡◌, ◌↔◌, ◌≢◌, ℕ, ℤ, false, if◌then◌else◌, List, Option, Some, Result, Ok, Err}
use Rattle.kmipa_object.specs.Inventory.{Thing}
use Rattle.kmipa_store.specs.Aside.{is_any_aside}
use Rattle.kmipa_store.specs.Ledger.{LedgerState, Meaning}
use Rattle.kmipa_msgs.specs.Messages.{RulesOf, AskOf, AnswerOf}
use Rattle.kmipa_ops.specs.Completes.{DoesSome}
use Rattle.kmipa_ops.specs.declared.why.Why.{Why}
use Rattle.kmipa_ops.specs.declared.why.Refusal.{Refusal}
use Rattle.kmipa_ops.specs.declared.why.Refusal.TheVariants.{Impossible, Memory}
use Rattle.kmipa_passed.specs.Leaving.{HeldOf, held_of, unknown}
use Rattle.kmipa_passed.specs.declared.leaving.Held.{Held}
use Rattle.kmipa_aside.specs.Becoming.{stand_in}
use Rattle.kmipa_aside.specs.Cases.{case}
use Rattle.kmipa_aside.specs.Does.{DoesExcused, is_as_ever}
use Rattle.kmipa_aside.specs.Ever.{DoesPlain, held_by, known}
use Rattle.kmipa_aside.specs.Explains.{Refutes, Took}
use Rattle.kmipa_aside.specs.Listing.{DoesListing}
use Rattle.kmipa_aside.specs.Graves.{grave}
use Rattle.kmipa_aside.specs.Lists.{is_touched}
use Rattle.kmipa_aside.specs.Reborn.{DoesReborn, lowest_beside}
use Rattle.kmipa_aside.specs.Taking.{Tells, frame_lowest, listing_lowest}
use Rattle.kmipa_aside.specs.Worlds.{WorldOf}

-- an item that is judged, with its answer
pub data PlaceOf : Type 0 where
  judged : AskOf → AnswerOf → PlaceOf

-- Any answer to a judged item is possible, since it is about what is set aside; or it is judged as ever; or it is a Locate that lists what is set
-- aside, and the rest of its list is judged as ever; or its new object takes the place of a body, and is judged as if that weren't there.
pub data DoesJudged (rules : RulesOf) (t : ℤ) (ask : AskOf) (answer : AnswerOf) (w : WorldOf) (before : HeldOf) (w' : WorldOf) (after : HeldOf) : Type 0 where
  excused : DoesExcused rules t ask answer w before w' after → DoesJudged rules t ask answer w before w' after
  plain : DoesPlain rules t ask answer w before w' after → DoesJudged rules t ask answer w before w' after
  listing : DoesListing rules t ask answer w before w' after → DoesJudged rules t ask answer w before w' after
  reborn : DoesReborn rules t ask answer w before w' after → DoesJudged rules t ask answer w before w' after

-- ---- what taking one comes to

-- the lowest reason against it
abbrev pub lowest_at : RulesOf → Meaning → HeldOf → ℤ → PlaceOf → Option Why
lowest_at rules m before t (judged ask answer) =
    if is_as_ever (case rules (stand_in m) before ask answer)
    then
    (if is_touched (stand_in m) ask answer
    then listing_lowest rules m before t ask answer else lowest_beside rules m before t ask answer (grave (stand_in m) ask answer))
    else frame_lowest ask answer

-- from a ledger `s` and a placeholder to `u` and another; or no choice allows it, and the lowest reason is told
abbrev pub TakenPlace : RulesOf → LedgerState → HeldOf → ℤ → PlaceOf → Result Held Refusal → LedgerState → Type 0
TakenPlace rules s before t (judged ask answer) (Ok after) u = Took (DoesJudged rules t ask answer) (Tells ask answer) s before u (held_of after)
TakenPlace rules s before t (judged ask answer) (Err (Impossible why)) u =
    (lowest_at rules s.now before t (judged ask answer) ≡ Some why) × Refutes (DoesJudged rules t ask answer) s.now before × (u ≡ s)
TakenPlace rules s before t (judged ask answer) (Err Memory) u = u.marks ≡ s.marks

-- ---- where nothing is set aside, and the ID Placeholder is known, a judged place does exactly what its item does

abbrev pub PlacesWithoutAsides : Type 0
PlacesWithoutAsides =
    (rules : RulesOf) (t : ℤ) (ask : AskOf) (answer : AnswerOf) (w : WorldOf) (before : HeldOf) (w' : WorldOf) (after : HeldOf) → is_any_aside w.aside ≡ false → before ≢ unknown
    → DoesJudged rules t ask answer w before w' after
    ↔ ((V : List Thing) × (held : Option (List ℕ)) × DoesSome rules w.things (known before) t ask answer V held × (w' ≡ record w { things = V })
    × (after ≡ held_by answer.status before answer.payload))
