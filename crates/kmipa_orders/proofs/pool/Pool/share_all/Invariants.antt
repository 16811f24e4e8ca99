use Rattle.std.proofs.Common.{◌≡◌, ◌≤◌, ◌-◌, length, take}
use Rattle.kmipa_orders.specs.Ends.{AreAlike, stills_shared}
use Rattle.kmipa_orders.specs.Stills.{stills}
use Rattle.kmipa_orders.proofs.pool.Pool.share_all.Given as goal

abbrev pub invariant-objects : goal.invariant-objects
invariant-objects g l = record {
  within : l.place ≤ length (g.L.Ledger.state l.ledger).now.objects;
  long : length l.objects.items ≡ l.place;
  copied : AreAlike l.front (stills_shared l.objects.items) (take l.place (stills (g.L.Ledger.state l.ledger).now));
}

abbrev pub decreases-objects : goal.decreases-objects
decreases-objects g l = length (g.L.Ledger.state l.ledger).now.objects - l.place
