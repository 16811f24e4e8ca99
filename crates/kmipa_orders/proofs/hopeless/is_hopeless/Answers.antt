use Rattle.kmipa_check.specs.Calls.{call_of}
use Rattle.kmipa_batch.proofs.ShapeLemmas.{clash}
use Rattle.kmipa_orders.proofs.HopelessLemmas.{hopeless_of}
use Rattle.kmipa_orders.proofs.UnheldLemmas.{unheld_of}
use Rattle.kmipa_orders.proofs.hopeless.is_hopeless.Goals as goal

pub returns : goal.returns
returns c = hopeless_of (call_of c.args.call.now) c.in-Some.own c.is_off.result c.in-Some.ensures.1 (λ r. clash (c.if-is_refused_message.ensures.1 r)) c.is_off.ensures

pub returns-then-is_unheld_call : goal.returns-then-is_unheld_call
returns-then-is_unheld_call c = λ e.
    unheld_of (call_of c.args.call.now) c.in-Some.own c.is_unheld_call.result c.in-Some.ensures.1 (λ r. clash (c.if-is_refused_message.ensures.1 r)) c.is_unheld_call.ensures c.if-is_unheld_call.true
