use Rattle.std.proofs.Common.{map}
use Rattle.kmipa_unjudged.specs.Told.{named_of}
use Rattle.kmipa_unjudged.proofs.NamingLemmas.{named_on}
use Rattle.kmipa_unjudged.proofs.naming.push_from.Goals as goal

pub places-preserved : goal.places-preserved
places-preserved c =
    named_on c.args.causes c.args.step.now.number c.args.places.now c.places.item c.index-places-item.result (map named_of c.places.named.items) (map named_of c.push_counted.new.named.items) _
    c.places-test.true c.index-places-item.is c.in_ok-push_counted.ensures c.places.invariant
