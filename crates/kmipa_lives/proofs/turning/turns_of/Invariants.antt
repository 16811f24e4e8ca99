use Rattle.std.proofs.Common.{◌<◌, All, length}
use Rattle.kmipa_lives.proofs.turning.turns_of.Given as goal

abbrev pub invariant-order : goal.invariant-order
invariant-order l = All (λ turn. turn.call < length l.calls) l.turns.items
