use Rattle.std.proofs.Common.{◌≡◌, false, map, take, Contains}
use Rattle.kmipa_msgs.specs.Messages.{AskOf, ask_of, lent}
use Rattle.kmipa_parts.specs.Parts.{is_among, may_touch}
use Rattle.kmipa_parts.proofs.touching.some_may_touch.Given as goal

abbrev pub invariant-asks : goal.invariant-asks
invariant-asks l = (ask : AskOf) → Contains (map ask_of (take l.ask-index l.asks)) ask → may_touch (is_among (map lent l.ids)) ask.asked ≡ false
