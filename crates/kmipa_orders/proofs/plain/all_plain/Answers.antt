use Rattle.std.proofs.Common.{sym}
use Rattle.kmipa_orders.proofs.GuessLemmas.{readable_more}
use Rattle.kmipa_orders.proofs.plain.all_plain.Goals as goal

pub plain_one-requires : goal.plain_one-requires
plain_one-requires c = c.requires c.call-item.result (c.calls.call-index, c.calls-test.true, sym c.call-item.is)

pub calls-preserved : goal.calls-preserved
calls-preserved c = readable_more c.calls.own.items c.push.new.self.items c.in-Some.one c.in_ok-push.ensures.items c.calls.invariant c.in-Some.ensures
