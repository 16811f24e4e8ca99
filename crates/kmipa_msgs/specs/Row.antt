-- What an operation is in messages: one value says all of it.
use Rattle.std.specs.Prelude.{Bool, Result}
use Rattle.kmipa_ttlv.specs.Tree.{Trees}
use Rattle.kmipa_msgs.specs.declared.kind.OutsideKind.{OutsideKind}
use Rattle.kmipa_msgs.specs.Messages.{AskedOf, PayloadOf}

pub record Row : Type 1 where
  -- the children of a Request Payload say what it asks for, or are outside; and their reading
  pub SaysAsked : Trees → AskedOf → Type 0
  pub AskedFault : Trees → OutsideKind → Type 0
  pub asked_in : Trees → Result AskedOf OutsideKind
  -- the children of a Response Payload say what was done, or are outside; and their reading
  pub SaysDone : Trees → PayloadOf → Type 0
  pub DoneFault : Trees → OutsideKind → Type 0
  pub done_in : Trees → Result PayloadOf OutsideKind
  -- its Response Payload may be absent, and is then read as empty
  pub may_be_bare : Bool
  -- what it did can't be judged without its payload
  pub NeedsPayload : Type 0
