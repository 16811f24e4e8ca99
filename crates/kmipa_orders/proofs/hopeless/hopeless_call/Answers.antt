use Rattle.kmipa_orders.proofs.HopelessLemmas.{hopeless_at}
use Rattle.kmipa_orders.proofs.hopeless.hopeless_call.Goals as goal

pub returns-then-branch : goal.returns-then-branch
returns-then-branch c = hopeless_at c.args.calls.now c.calls.place c.index-calls-place.result c.calls-test.true c.index-calls-place.is (c.in_ok-is_hopeless.ensures c.if-branch.true)
