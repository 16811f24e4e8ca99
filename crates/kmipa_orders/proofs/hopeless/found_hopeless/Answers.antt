use Rattle.std.proofs.Common.{map}
use Rattle.kmipa_check.specs.Calls.{call_of}
use Rattle.kmipa_orders.proofs.HopelessLemmas.{finds_hopeless}
use Rattle.kmipa_orders.proofs.hopeless.found_hopeless.Goals as goal

pub returns-in-Some-clause-finds : goal.returns-in-Some-clause-finds
returns-in-Some-clause-finds c = λ marks declared budget few r are.
    finds_hopeless c.check_laws.ensures marks declared (map call_of c.args.calls.now) _ c.in-Some.place budget c.args.steps r are few c.in-Some.is c.in-Ok.ensures
