use Rattle.std.proofs.Common.{option_map, refl, ap}
use Rattle.kmipa_msgs.specs.Messages.{response_of}
use Rattle.kmipa_record.specs.Entries.{items_of}
use Rattle.kmipa_check.specs.Orders.{answered}
use Rattle.kmipa_check.proofs.FillingLemmas.{some_not}
use Rattle.kmipa_check.proofs.turn.answered.Goals as goal

pub returns-then-is_some : goal.returns-then-is_some
returns-then-is_some c =
    answered (response_of c.in-Some.response) (ap (option_map response_of) c.in-Some.is) (some_not items_of c.args.turn.now.answer c.is_some.result c.is_some.ensures c.if-is_some.true) refl
