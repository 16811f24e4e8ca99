use Rattle.std.proofs.Common.{◌≡◌, ◌-◌}
use Rattle.kmipa_ops.proofs.listing.look_on.Given as goal

abbrev pub invariant-look : goal.invariant-look
invariant-look g l = record {
  same : g.L.Ledger.state l.ledger ≡ g.L.Ledger.state l.fn.ledger;
  still : g.L.Ledger.moment l.ledger ≡ g.L.Ledger.moment l.fn.ledger;
}

abbrev pub decreases-look : goal.decreases-look
decreases-look g l = l.end - l.from
