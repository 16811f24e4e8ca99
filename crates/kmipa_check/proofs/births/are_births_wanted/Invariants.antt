use Rattle.std.proofs.Common.{◌-◌, length, map}
use Rattle.kmipa_msgs.specs.Messages.{request_of, response_of}
use Rattle.kmipa_record.specs.Witnesses.{birth_of}
use Rattle.kmipa_check.specs.Bearing.{AreBirthsBelow}
use Rattle.kmipa_check.proofs.births.are_births_wanted.Given as goal

abbrev pub invariant-births : goal.invariant-births
invariant-births l = AreBirthsBelow (request_of l.request) (response_of l.response) (map birth_of l.births) l.at

abbrev pub decreases-births : goal.decreases-births
decreases-births l = length l.births - l.at
