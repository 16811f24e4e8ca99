-- WHAT A JUDGED ITEM DOES THAT IS JUDGED AS EVER, where a body has the identifier of its new object: that takes the body's place (profile).
use Rattle.std.specs.Prelude.{◌≡◌, ◌&&◌, ◌++◌, ◌∷◌, [], ℕ, ℤ, Bool, true, is_some, List, Option, Some, None}
use Rattle.kmipa_object.specs.Inventory.{Thing}
use Rattle.kmipa_object.specs.Lists.{updated}
use Rattle.kmipa_store.specs.Ledger.{Meaning}
use Rattle.kmipa_msgs.specs.Messages.{RulesOf, AskOf, AnswerOf}
use Rattle.kmipa_ops.specs.Blame.{lowest}
use Rattle.kmipa_ops.specs.Completes.{DoesSome}
use Rattle.kmipa_ops.specs.declared.why.Why.{Why}
use Rattle.kmipa_passed.specs.Leaving.{HeldOf}
use Rattle.kmipa_aside.specs.Cases.{case}
use Rattle.kmipa_aside.specs.Does.{is_as_ever}
use Rattle.kmipa_aside.specs.Ever.{held_by, id_born, judged_by, taken_in}
use Rattle.kmipa_aside.specs.Graves.{grave, lacking, without}
use Rattle.kmipa_aside.specs.Standing.{StandOf}
use Rattle.kmipa_aside.specs.Worlds.{WorldOf, stand}

abbrev pub is_reborn : RulesOf → StandOf → HeldOf → AskOf → AnswerOf → Bool
is_reborn rules s before ask answer = is_as_ever (case rules s before ask answer) && is_some (grave s ask answer)

-- it is judged as if the body weren't there, and what is born takes its place
pub record DoesReborn (rules : RulesOf) (t : ℤ) (ask : AskOf) (answer : AnswerOf) (w : WorldOf) (before : HeldOf) (w' : WorldOf) (after : HeldOf) : Type 0 where
  pub reborn : is_reborn rules (stand w) before ask answer ≡ true
  pub place : ℕ
  pub body : grave (stand w) ask answer ≡ Some place
  pub object : Thing
  pub held : Option (List ℕ)
  pub does : DoesSome rules (without place w.things) (judged_by before answer) t ask answer (without place w.things ++ object ∷ []) held
  pub world : w' ≡ record { things = updated w.things place (λ (body : Thing). object); aside = taken_in (id_born answer.status answer.payload) w.aside }
  pub placeholder : after ≡ held_by answer.status before answer.payload

-- the lowest reason against it, where a body is at this place; or where there is none
abbrev pub lowest_beside : RulesOf → Meaning → HeldOf → ℤ → AskOf → AnswerOf → Option ℕ → Option Why
lowest_beside rules m before t ask answer None = lowest rules m (judged_by before answer) t ask answer
lowest_beside rules m before t ask answer (Some place) = lowest rules (lacking place m) (judged_by before answer) t ask answer
