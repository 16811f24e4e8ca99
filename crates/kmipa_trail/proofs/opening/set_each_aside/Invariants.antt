use Rattle.std.proofs.Common.{◌≡◌, map, take}
use Rattle.std.specs.String.{string_bytes}
use Rattle.kmipa_trail.specs.Setting.{with_each_aside}
use Rattle.kmipa_trail.proofs.opening.set_each_aside.Given as goal

abbrev pub invariant-ids : goal.invariant-ids
invariant-ids g l = g.L.Ledger.state l.ledger ≡ with_each_aside (g.L.Ledger.state l.fn.ledger) (take l.id-index (map string_bytes l.ids))
