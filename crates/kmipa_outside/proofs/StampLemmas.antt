-- What is told of a response itself, and what is at fault with it.
use Rattle.std.proofs.Common.{List, [], ◌∷◌, length, Some, None}
use Rattle.kmipa_attrs.specs.Tags.{response_header_tag}
use Rattle.kmipa_msgs.specs.Headers.{batch}
use Rattle.kmipa_msgs.specs.Tables.{children}
use Rattle.kmipa_outside.specs.HeaderDemands.{response_header_demands}
use Rattle.kmipa_outside.specs.Laws.{ResponseReasonsHaveFields}
use Rattle.kmipa_outside.specs.Requests.{header_demand}
use Rattle.kmipa_outside.proofs.HeaderLemmas.{response_header_finds}
use Rattle.kmipa_outside.proofs.ToldLemmas.{both_told}

pub response_finds : ResponseReasonsHaveFields
response_finds t request k own w =
    both_told k (children t) None (Some response_header_tag) (header_demand response_header_tag ∷ []) (response_header_demands (length (batch t))) (response_header_finds t k own w)
