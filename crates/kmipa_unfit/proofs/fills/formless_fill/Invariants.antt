use Rattle.std.proofs.Common.{◌-◌, length, map}
use Rattle.kmipa_msgs.specs.Messages.{request_of, response_of}
use Rattle.kmipa_record.specs.Witnesses.{fill_of}
use Rattle.kmipa_unfit.specs.UnfitFills.{IsFormlessAt}
use Rattle.kmipa_unfit.proofs.BelowLemmas.{Below}
use Rattle.kmipa_unfit.proofs.fills.formless_fill.Given as goal

abbrev pub invariant-fills : goal.invariant-fills
invariant-fills l = Below (λ place. IsFormlessAt (request_of l.request) (response_of l.response) (map fill_of l.fills) place → ⊥) l.at

abbrev pub decreases-fills : goal.decreases-fills
decreases-fills l = length l.fills - l.at
