-- WHAT A JUDGED ITEM DOES THAT IS EXCUSED: any answer to it is possible (profile).
use Rattle.std.specs.Prelude.{◌≡◌, ℤ, Bool, true, false, not, ◌&&◌, if◌then◌else◌}
use Rattle.kmipa_msgs.specs.Messages.{RulesOf, AskOf, AnswerOf, operation_asked}
use Rattle.kmipa_msgs.specs.Operations.{operation_number}
use Rattle.kmipa_ops.specs.Objects.{Echoes, Agree}
use Rattle.kmipa_ops.specs.Effects.{EffectOf, changes}
use Rattle.kmipa_ops.specs.Rows.{effect_asked}
use Rattle.kmipa_passed.specs.Leaving.{HeldOf, unknown}
use Rattle.kmipa_aside.specs.Cases.{case, is_failed}
use Rattle.kmipa_aside.specs.Worlds.{WorldOf, stand, set_all_aside}
use Rattle.kmipa_aside.specs.declared.case.Case.{Case}
use Rattle.kmipa_aside.specs.declared.case.Case.TheVariants.{Over, AboutUnknown, AsEver}

abbrev pub is_change : EffectOf → Bool
is_change (changes c) = true
is_change effect = false

-- a change of an object was done
abbrev pub is_done_change : AskOf → AnswerOf → Bool
is_done_change ask answer = not (is_failed answer.status) && is_change (effect_asked ask.asked)

-- nothing is judged of it, and so nothing changes; but where nobody can tell which object was changed, all are set aside
abbrev pub world_behind : Case → ℤ → AskOf → AnswerOf → WorldOf → WorldOf
world_behind AboutUnknown t ask answer w = if is_done_change ask answer then set_all_aside t w else w
world_behind other t ask answer w = w

-- once judging is over nobody can tell what the ID Placeholder holds
abbrev pub held_behind : Case → HeldOf → HeldOf
held_behind Over before = unknown
held_behind other before = before

abbrev pub is_as_ever : Case → Bool
is_as_ever AsEver = true
is_as_ever other = false

-- in this case it is
abbrev pub IsExcused : Case → Type 0
IsExcused c = is_as_ever c ≡ false

-- Operation and Unique Batch Item ID, where the answer has them, are those of the request; all else is possible.
pub record DoesExcused (rules : RulesOf) (t : ℤ) (ask : AskOf) (answer : AnswerOf) (w : WorldOf) (before : HeldOf) (w' : WorldOf) (after : HeldOf) : Type 0 where
  pub free : IsExcused (case rules (stand w) before ask answer)
  pub operation : Echoes answer.operation (operation_number (operation_asked ask.asked))
  pub batch_id : Agree answer.batch_id ask.batch_id
  pub world : w' ≡ world_behind (case rules (stand w) before ask answer) t ask answer w
  pub placeholder : after ≡ held_behind (case rules (stand w) before ask answer) before
