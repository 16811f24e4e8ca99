-- WHAT A JUDGED PLACE OF A CALL DOES, where a server may hide objects from the call's client (profile).
use Rattle.std.specs.Prelude.{◌≡◌, ◌&&◌, ℕ, ℤ, Bool, true, false, if◌then◌else◌, List, Option, Some, Result, Ok, Err}
use Rattle.kmipa_store.specs.Ledger.{LedgerState, Meaning}
use Rattle.kmipa_msgs.specs.Messages.{AskOf, AnswerOf, operation_asked}
use Rattle.kmipa_msgs.specs.Operations.{operation_number}
use Rattle.kmipa_ops.specs.Locate.{is_listed}
use Rattle.kmipa_ops.specs.Objects.{Echoes, Agree}
use Rattle.kmipa_ops.specs.declared.why.Why.{Why}
use Rattle.kmipa_ops.specs.declared.why.Refusal.{Refusal}
use Rattle.kmipa_ops.specs.declared.why.Refusal.TheVariants.{Impossible, Memory}
use Rattle.kmipa_passed.specs.Leaving.{HeldOf, empty, holds, unknown, held_of}
use Rattle.kmipa_passed.specs.declared.leaving.Held.{Held}
use Rattle.kmipa_aside.specs.Aims.{aim}
use Rattle.kmipa_aside.specs.Becoming.{stand_in}
use Rattle.kmipa_aside.specs.Cases.{case, is_failed}
use Rattle.kmipa_aside.specs.Does.{is_as_ever}
use Rattle.kmipa_aside.specs.Ever.{held_by}
use Rattle.kmipa_aside.specs.Explains.{Refutes, Took}
use Rattle.kmipa_aside.specs.Missed.{answer_with, ask_with, is_any, missed}
use Rattle.kmipa_aside.specs.Places.{DoesJudged, PlaceOf, judged, lowest_at}
use Rattle.kmipa_aside.specs.Sights.{SightOf}
use Rattle.kmipa_aside.specs.Standing.{StandOf}
use Rattle.kmipa_aside.specs.Taking.{Tells, frame_lowest}
use Rattle.kmipa_aside.specs.Worlds.{WorldOf, stand}

-- ---- an answer that failed

-- the object that an item is about is hidden
abbrev pub is_hidden : List (List ℕ) → HeldOf → Bool
is_hidden hidden empty = false
is_hidden hidden (holds id) = is_listed hidden id
is_hidden hidden unknown = false

-- an item that is judged as ever failed, and is about an object that is hidden
abbrev pub is_denied : SightOf → StandOf → HeldOf → AskOf → AnswerOf → Bool
is_denied sight s before ask answer = is_failed answer.status && is_hidden sight.hidden (aim before ask answer) && is_as_ever (case sight.rules s before ask answer)

-- so it may, whatever reason it gives, and nothing changes
pub record DoesDenied (sight : SightOf) (ask : AskOf) (answer : AnswerOf) (w : WorldOf) (before : HeldOf) (w' : WorldOf) (after : HeldOf) : Type 0 where
  pub denied : is_denied sight (stand w) before ask answer ≡ true
  pub operation : Echoes answer.operation (operation_number (operation_asked ask.asked))
  pub batch_id : Agree answer.batch_id ask.batch_id
  pub world : w' ≡ w
  pub placeholder : after ≡ before

-- ---- a Locate

-- some hidden ones aren't listed that are to be: they count as listed
pub record DoesMissing (sight : SightOf) (t : ℤ) (ask : AskOf) (answer : AnswerOf) (w : WorldOf) (before : HeldOf) (w' : WorldOf) (after : HeldOf) : Type 0 where
  pub granted : is_denied sight (stand w) before ask answer ≡ false
  pub misses : is_any (missed sight (stand w) t ask answer) ≡ true
  pub held : HeldOf
  pub does : DoesJudged sight.rules t (ask_with ask) (answer_with (missed sight (stand w) t ask answer) answer) w before w' held
  pub placeholder : after ≡ held_by answer.status before answer.payload

-- ---- any other place does what it does where nothing is hidden

pub record DoesOpenly (sight : SightOf) (t : ℤ) (ask : AskOf) (answer : AnswerOf) (w : WorldOf) (before : HeldOf) (w' : WorldOf) (after : HeldOf) : Type 0 where
  pub granted : is_denied sight (stand w) before ask answer ≡ false
  pub lists : is_any (missed sight (stand w) t ask answer) ≡ false
  pub does : DoesJudged sight.rules t ask answer w before w' after

-- ---- THE DEFINITION

pub data DoesSeen (sight : SightOf) (t : ℤ) (ask : AskOf) (answer : AnswerOf) (w : WorldOf) (before : HeldOf) (w' : WorldOf) (after : HeldOf) : Type 0 where
  denied : DoesDenied sight ask answer w before w' after → DoesSeen sight t ask answer w before w' after
  missing : DoesMissing sight t ask answer w before w' after → DoesSeen sight t ask answer w before w' after
  openly : DoesOpenly sight t ask answer w before w' after → DoesSeen sight t ask answer w before w' after

-- ---- what taking one comes to

-- the lowest reason against it
abbrev pub lowest_missing : SightOf → Meaning → HeldOf → ℤ → AskOf → AnswerOf → Option Why
lowest_missing sight m before t ask answer =
    if is_any (missed sight (stand_in m) t ask answer)
    then lowest_at sight.rules m before t (judged (ask_with ask) (answer_with (missed sight (stand_in m) t ask answer) answer))
    else lowest_at sight.rules m before t (judged ask answer)

abbrev pub lowest_seen : SightOf → Meaning → HeldOf → ℤ → PlaceOf → Option Why
lowest_seen sight m before t (judged ask answer) =
    if is_denied sight (stand_in m) before ask answer then frame_lowest ask answer else lowest_missing sight m before t ask answer

-- from a ledger `s` and a placeholder to `u` and another; or no choice allows it, and the lowest reason is told
abbrev pub TakenSeen : SightOf → LedgerState → HeldOf → ℤ → PlaceOf → Result Held Refusal → LedgerState → Type 0
TakenSeen sight s before t (judged ask answer) (Ok after) u = Took (DoesSeen sight t ask answer) (Tells ask answer) s before u (held_of after)
TakenSeen sight s before t (judged ask answer) (Err (Impossible why)) u =
    (lowest_seen sight s.now before t (judged ask answer) ≡ Some why) × Refutes (DoesSeen sight t ask answer) s.now before × (u ≡ s)
TakenSeen sight s before t (judged ask answer) (Err Memory) u = u.marks ≡ s.marks
