use Rattle.std.proofs.Common.{length, arith}
use Rattle.kmipa_msgs.specs.Messages.{rules_of}
use Rattle.kmipa_ops.specs.Placeholders.{placeholder_of}
use Rattle.kmipa_batch.specs.Calls.{pairs_of}
use Rattle.kmipa_batch.proofs.RunLemmas.{along_more}
use Rattle.kmipa_check.specs.Steps.{order_of, step_of}
use Rattle.kmipa_check.proofs.PlacesLemmas.{may_take}
use Rattle.kmipa_explain.specs.Items.{places_taken}
use Rattle.kmipa_explain.proofs.StandingLemmas.{led_ahead}
use Rattle.kmipa_explain.proofs.standing.take_ahead.Goals as goal

pub items-preserved : goal.items-preserved
items-preserved g c =
    let s = step_of c.args.step.now in
    record {
      along = along_more (rules_of c.args.rules.now) s.response.stamp (g.L.Ledger.state c.args.ledger.now) (pairs_of s.request s.response) (places_taken (order_of s) (length s.request.items))
          c.items.position (g.L.Ledger.state c.items.ledger) (placeholder_of c.items.placeholder) c.items.invariant.along c.place_at-next.result c.place_at-next.ensures
          (g.L.Ledger.state c.take_item.new.ledger) (placeholder_of c.take_item.new.placeholder) c.in_ok-take_item.ensures.taken;
      within = omega (arith, c.items-test.true);
    }

pub returns-clause-led : goal.returns-clause-led
returns-clause-led g c =
    let s = step_of c.args.step.now in
    led_ahead (rules_of c.args.rules.now) s c.args.place (g.L.Ledger.state c.args.ledger.now) (g.L.Ledger.state c.items.ledger) (placeholder_of c.items.placeholder)
    c.items.position c.position_of-count.result (may_take s.request s.response s.places c.requires.order) c.position_of-count.ensures c.items.invariant.within (omega (arith, c.items-test.false))
    c.items.invariant.along
