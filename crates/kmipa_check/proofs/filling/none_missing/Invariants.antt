use Rattle.std.proofs.Common.{◌-◌, length, map}
use Rattle.kmipa_msgs.specs.Messages.{request_of, response_of}
use Rattle.kmipa_record.specs.Witnesses.{fill_of}
use Rattle.kmipa_check.specs.Fills.{HaveFillsBelow}
use Rattle.kmipa_check.proofs.filling.none_missing.Given as goal

abbrev pub invariant-items : goal.invariant-items
invariant-items l = HaveFillsBelow (request_of l.request) (response_of l.response) (map fill_of l.fills) l.place

abbrev pub decreases-items : goal.decreases-items
decreases-items l = length l.request.items.items - l.place
