use Rattle.std.proofs.Common.{ap}
use Rattle.kmipa_msgs.specs.Messages.{asked_of}
use Rattle.kmipa_parts.proofs.item.lists.Goals as goal

pub returns-in-Locate : goal.returns-in-Locate
returns-in-Locate c = λ before. c.list_part.ensures before (ap asked_of c.in-Locate.is) c.in-Some.ensures (c.is_failed.ensures c.if-is_failed.false)
