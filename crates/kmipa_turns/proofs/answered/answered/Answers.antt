use Rattle.std.proofs.Common.{option_map, refl, ap}
use Rattle.kmipa_msgs.specs.Messages.{lent}
use Rattle.kmipa_record.specs.Entries.{items_of}
use Rattle.kmipa_check.proofs.FillingLemmas.{some_not}
use Rattle.kmipa_turns.specs.Answered.{answered, recorded}
use Rattle.kmipa_turns.proofs.AnswerLemmas.{none_so}
use Rattle.kmipa_turns.proofs.answered.answered.Goals as goal

pub returns-then-is_some : goal.returns-then-is_some
returns-then-is_some c =
    answered c.in-Some.response.now (ap (option_map lent) c.in-Some.is) (some_not items_of c.args.turn.now.answer c.is_some.result c.is_some.ensures c.if-is_some.true) refl

pub returns : goal.returns
returns c =
    recorded c.in-Some.response.now (ap (option_map lent) c.in-Some.is) (none_so items_of c.args.turn.now.answer c.is_some.result c.is_some.ensures c.if-is_some.false) c.whole_item.ensures
