use Rattle.std.proofs.Common.{map}
use Rattle.kmipa_check.specs.Calls.{call_of}
use Rattle.kmipa_orders.proofs.GuessLemmas.{own_recorded}
use Rattle.kmipa_search.proofs.searching.waiting_steps.Goals as goal

pub guess_order-requires-clause-recorded : goal.guess_order-requires-clause-recorded
guess_order-requires-clause-recorded g c =
    own_recorded c.requires.each.0 (map call_of c.args.calls.now) c.in_ok-own.own.items c.deref.result.now c.deref.ensures.value c.in_ok-own.ensures c.requires.each.1
