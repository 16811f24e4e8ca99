use Rattle.std.proofs.Common.{◌≡◌, ◌-◌, length, map, take}
use Rattle.kmipa_record.specs.Entries.{entry_of}
use Rattle.kmipa_check.specs.Left.{entry_left}
use Rattle.kmipa_check.proofs.leaving.declaration_left.Given as goal

abbrev pub invariant-places : goal.invariant-places
invariant-places g l = map entry_of l.entries.items ≡ map (entry_left (g.L.Ledger.state l.ledger).now.secrets) (take l.place (g.L.Ledger.state l.ledger).now.objects)

abbrev pub decreases-places : goal.decreases-places
decreases-places g l = length (g.L.Ledger.state l.ledger).now.objects - l.place
