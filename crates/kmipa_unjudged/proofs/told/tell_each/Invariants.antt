use Rattle.std.proofs.Common.{◌≡◌, map, drop}
use Rattle.kmipa_aside.specs.Becoming.{stand_in}
use Rattle.kmipa_unjudged.specs.Asides.{told_each}
use Rattle.kmipa_unjudged.specs.Known.{AreIds}
use Rattle.kmipa_unjudged.specs.Told.{named_of}
use Rattle.kmipa_unjudged.proofs.told.tell_each.Given as goal

-- what is told so far, behind those that are left, is what is told behind all
abbrev pub invariant-named : goal.invariant-named
invariant-named g l =
    let s = stand_in (g.L.Ledger.state l.ledger).now in
    record {
      told : told_each s (map named_of l.told.list.items) (map named_of (drop l.one-index l.named)) ≡ told_each s (map named_of l.fn.told.list.items) (map named_of l.named);
      ids : AreIds (map named_of l.told.list.items) l.told.ids;
    }
