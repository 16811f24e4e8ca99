-- Calls that a turn has nothing to give but their place: the searcher needs no more of them than the two laws below.
use Rattle.std.specs.Prelude.{◌≡◌, ℕ, false, Some}
use Rattle.kmipa_record.specs.Witnesses.{TurnOf, bare_turn}
use Rattle.kmipa_msgs.specs.Messages.{ResponseOf}
use Rattle.kmipa_batch.specs.Orders.{is_unordered}
use Rattle.kmipa_check.specs.Calls.{CallOf}
use Rattle.kmipa_check.specs.Grants.{GrantsOf, GrantsNothing}
use Rattle.kmipa_check.specs.Steps.{StepOf, NeedsFill, IsStep, step_with}

-- a call that has ended with this response, whose items have their order, and no place of which waits for a payload [profile]
pub record IsPlainCall (c : CallOf) (response : ResponseOf) : Type 0 where
  pub end : ℕ
  pub ended : c.end ≡ Some end
  pub given : c.response ≡ Some response
  pub ordered : is_unordered c.request ≡ false
  pub complete : NeedsFill c.request response → ⊥

-- where nothing is granted, every turn that takes a plain call makes one step of it: the call with its recorded response, at its Time Stamp
abbrev pub PlainCallHasOneStep : Type 0
PlainCallHasOneStep = (g : GrantsOf) (c : CallOf) (response : ResponseOf) (t : TurnOf) (s : StepOf) → GrantsNothing g → IsPlainCall c response → IsStep g c t s
    → s ≡ step_with c response

-- and the bare turn makes it, whatever is granted
abbrev pub PlainCallIsTakenBare : Type 0
PlainCallIsTakenBare = (g : GrantsOf) (c : CallOf) (response : ResponseOf) → IsPlainCall c response → IsStep g c (bare_turn c.number) (step_with c response)
