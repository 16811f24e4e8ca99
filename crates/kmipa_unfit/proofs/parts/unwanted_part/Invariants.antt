use Rattle.std.proofs.Common.{◌-◌, length}
use Rattle.kmipa_msgs.specs.Messages.{request_of, response_of}
use Rattle.kmipa_unfit.specs.PartFinding.{IsWantedPart}
use Rattle.kmipa_unfit.proofs.BelowLemmas.{Below}
use Rattle.kmipa_unfit.proofs.parts.unwanted_part.Given as goal

abbrev pub invariant-parts : goal.invariant-parts
invariant-parts l = Below (IsWantedPart l.part (request_of l.request) (response_of l.response) l.items) l.at

abbrev pub decreases-parts : goal.decreases-parts
decreases-parts l = length l.items - l.at
