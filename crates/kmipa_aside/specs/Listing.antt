-- WHAT A LOCATE DOES THAT IS JUDGED AS EVER, where it lists identifiers that are set aside (profile).
use Rattle.std.specs.Prelude.{◌≡◌, ◌&&◌, ◌||◌, ℕ, ℤ, Bool, true, false, List, [], length, Option, Some, None}
use Rattle.kmipa_object.specs.Inventory.{Thing}
use Rattle.kmipa_store.specs.Ledger.{Meaning}
use Rattle.kmipa_msgs.specs.Messages.{RulesOf, AskOf, AskedOf, AnswerOf, PayloadOf, answer_of, ask_of, locates, located}
use Rattle.kmipa_ops.specs.Blame.{speaks}
use Rattle.kmipa_ops.specs.Completes.{DoesSome}
use Rattle.kmipa_ops.specs.Locate.{has_repeat, is_over}
use Rattle.kmipa_ops.specs.declared.why.Why.{Why}
use Rattle.kmipa_ops.specs.declared.why.Why.TheVariants.{ListedWrongly}
use Rattle.kmipa_passed.specs.Leaving.{HeldOf}
use Rattle.kmipa_aside.specs.Becoming.{stand_in}
use Rattle.kmipa_aside.specs.Cases.{case}
use Rattle.kmipa_aside.specs.Does.{is_as_ever}
use Rattle.kmipa_aside.specs.Ever.{held_by, judged_by}
use Rattle.kmipa_aside.specs.Lists.{answer_beside, ask_beside, is_touched}
use Rattle.kmipa_aside.specs.Standing.{StandOf}
use Rattle.kmipa_aside.specs.Worlds.{WorldOf, stand}
use Rattle.kmipa_aside.specs.declared.beside.Beside.{Beside}

abbrev pub is_listing : RulesOf → StandOf → HeldOf → AskOf → AnswerOf → Bool
is_listing rules s before ask answer = is_as_ever (case rules s before ask answer) && is_touched s ask answer

-- what an answer lists
abbrev pub listed_in : Option PayloadOf → List (List ℕ)
listed_in (Some (located ids)) = ids
listed_in payload = []

pub record DoesListing (rules : RulesOf) (t : ℤ) (ask : AskOf) (answer : AnswerOf) (w : WorldOf) (before : HeldOf) (w' : WorldOf) (after : HeldOf) : Type 0 where
  pub listing : is_listing rules (stand w) before ask answer ≡ true
  -- nothing is listed twice
  pub once : has_repeat (listed_in answer.payload) ≡ false
  -- what isn't set aside is judged as ever, where so many fewer may be listed as are set aside
  pub things : List Thing
  pub held : Option (List ℕ)
  pub does : DoesSome rules w.things (judged_by before answer) t (ask_beside (stand w) ask answer) (answer_beside (stand w) answer) things held
  pub world : w' ≡ record w { things = things }
  pub placeholder : after ≡ held_by answer.status before answer.payload

-- this reason speaks against it
abbrev pub listing_speaks : RulesOf → Meaning → HeldOf → ℤ → AskOf → AnswerOf → Why → Bool
listing_speaks rules m before t ask answer ListedWrongly =
    has_repeat (listed_in answer.payload) || speaks rules m (judged_by before answer) t (ask_beside (stand_in m) ask answer) (answer_beside (stand_in m) answer) ListedWrongly
listing_speaks rules m before t ask answer why = speaks rules m (judged_by before answer) t (ask_beside (stand_in m) ask answer) (answer_beside (stand_in m) answer) why

-- more is listed than may be
abbrev pub lists_over : AskedOf → Option PayloadOf → Bool
lists_over (locates q) (Some (located ids)) = is_over q.maximum (length ids)
lists_over asked payload = false

-- what is asked and answered beside what is set aside; where nothing is listed twice, and no more than may be
abbrev pub IsBeside : StandOf → AskOf → AnswerOf → Option Beside → Type 0
IsBeside s ask answer None = is_touched s ask answer ≡ true → (has_repeat (listed_in answer.payload) || lists_over ask.asked answer.payload) ≡ true
IsBeside s ask answer (Some b) =
    (has_repeat (listed_in answer.payload) ≡ false) × (ask_of b.ask ≡ ask_beside s ask answer) × (answer_of b.answer ≡ answer_beside s answer)
