use Rattle.std.proofs.Common.{◌-◌, length, map}
use Rattle.kmipa_msgs.specs.Messages.{request_of, response_of}
use Rattle.kmipa_record.specs.Witnesses.{fill_of}
use Rattle.kmipa_check.specs.Filling.{IsFilledUpTo}
use Rattle.kmipa_check.proofs.filling.filled.Given as goal

abbrev pub invariant-fills : goal.invariant-fills
invariant-fills l = IsFilledUpTo (request_of l.request) (response_of l.response) (map fill_of l.fills) l.at (response_of l.full)

abbrev pub decreases-fills : goal.decreases-fills
decreases-fills l = length l.fills - l.at
