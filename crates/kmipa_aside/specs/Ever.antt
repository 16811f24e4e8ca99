-- WHAT A JUDGED ITEM DOES THAT IS JUDGED AS EVER, where what is set aside doesn't touch it (profile).
use Rattle.std.specs.Prelude.{◌≡◌, ◌&&◌, ◌||◌, not, is_some, ℕ, ℤ, Bool, true, List, Option, Some, None}
use Rattle.kmipa_object.specs.Inventory.{Thing}
use Rattle.kmipa_msgs.specs.Messages.{RulesOf, AskOf, AnswerOf, PayloadOf, created, registered, located}
use Rattle.kmipa_msgs.specs.declared.response.Status.{Status}
use Rattle.kmipa_msgs.specs.declared.response.Status.TheVariants.{Success, Failed, Undone}
use Rattle.kmipa_store.specs.Aside.{AsideOf, said_in}
use Rattle.kmipa_ops.specs.Completes.{DoesSome}
use Rattle.kmipa_ops.specs.Locate.{only}
use Rattle.kmipa_passed.specs.Leaving.{HeldOf, empty, holds, unknown}
use Rattle.kmipa_aside.specs.Aims.{id_shown, or_shown}
use Rattle.kmipa_aside.specs.Cases.{case}
use Rattle.kmipa_aside.specs.Does.{is_as_ever}
use Rattle.kmipa_aside.specs.Graves.{grave}
use Rattle.kmipa_aside.specs.Lists.{is_touched}
use Rattle.kmipa_aside.specs.Standing.{StandOf}
use Rattle.kmipa_aside.specs.Worlds.{WorldOf, stand}

-- what the ID Placeholder is known to hold
abbrev pub known : HeldOf → Option (List ℕ)
known empty = None
known (holds id) = Some id
known unknown = None

abbrev pub held_as : Option (List ℕ) → HeldOf
held_as None = empty
held_as (Some id) = holds id

-- the placeholder by which an item is judged: where nobody can tell what it holds, the object that the answer shows is meant
abbrev pub judged_by : HeldOf → AnswerOf → Option (List ℕ)
judged_by before answer = known (or_shown before (id_shown answer.status answer.payload))

-- what it holds behind it: a new object's identifier, or the only one that is listed; else what it held
abbrev pub held_made : HeldOf → Option PayloadOf → HeldOf
held_made before (Some (created x)) = holds x.id
held_made before (Some (registered x)) = holds x.id
held_made before (Some (located ids)) = held_as (only ids)
held_made before payload = before

abbrev pub held_by : Status → HeldOf → Option PayloadOf → HeldOf
held_by Success before payload = held_made before payload
held_by Undone before payload = held_made before payload
held_by Failed before payload = before

-- the identifier of a new object, where one was made
abbrev pub id_made : Option PayloadOf → Option (List ℕ)
id_made (Some (created x)) = Some x.id
id_made (Some (registered x)) = Some x.id
id_made payload = None

abbrev pub id_born : Status → Option PayloadOf → Option (List ℕ)
id_born Success payload = id_made payload
id_born Undone payload = id_made payload
id_born Failed payload = None

-- it isn't set aside any more: what is born is judged, whatever had its identifier before
abbrev pub taken_in : Option (List ℕ) → AsideOf → AsideOf
taken_in None a = a
taken_in (Some id) a = record a { ids = said_in a.ids id }

-- it is judged as ever, and lists nothing that is set aside, and no body has the identifier of its new object
abbrev pub is_plain : RulesOf → StandOf → HeldOf → AskOf → AnswerOf → Bool
is_plain rules s before ask answer = is_as_ever (case rules s before ask answer) && not (is_touched s ask answer || is_some (grave s ask answer))

pub record DoesPlain (rules : RulesOf) (t : ℤ) (ask : AskOf) (answer : AnswerOf) (w : WorldOf) (before : HeldOf) (w' : WorldOf) (after : HeldOf) : Type 0 where
  pub plain : is_plain rules (stand w) before ask answer ≡ true
  pub things : List Thing
  pub held : Option (List ℕ)
  pub does : DoesSome rules w.things (judged_by before answer) t ask answer things held
  pub world : w' ≡ record { things = things; aside = taken_in (id_born answer.status answer.payload) w.aside }
  pub placeholder : after ≡ held_by answer.status before answer.payload
