use Rattle.std.proofs.Common.{◌≡◌}
use Rattle.std.proofs.Common.{◌<◌, All}
use Rattle.kmipa_lives.proofs.proposing.calls_among.Given as goal

abbrev pub invariant-nodes : goal.invariant-nodes
invariant-nodes l = All (λ place. place < l.count) l.places.items
