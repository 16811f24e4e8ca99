use Rattle.std.proofs.Common.{ℕ, List, Option, option_map, subst}
use Rattle.kmipa_msgs.specs.Messages.{rules_of}
use Rattle.kmipa_record.specs.Entries.{items_of}
use Rattle.kmipa_batch.specs.Orders.{order_given}
use Rattle.kmipa_passed.specs.Leaving.{empty}
use Rattle.kmipa_aside.specs.Explains.{Took}
use Rattle.kmipa_bundle.specs.Bundles.{DoesRead, call_seen}
use Rattle.kmipa_bundle.specs.Deeds.{TellsSome}
use Rattle.kmipa_bundle.specs.Refusals.{TellsPlace}
use Rattle.kmipa_unjudged.proofs.StepLemmas.{took_read}
use Rattle.kmipa_unjudged.proofs.step.take_read.Goals as goal

pub returns-in-Ok : goal.returns-in-Ok
returns-in-Ok g c =
    let rules = rules_of c.args.sight.rules.now in
    let s = g.L.Ledger.state c.args.ledger.now in
    let u = g.L.Ledger.state c.take_call.new.ledger in
    let call = call_seen c.args.sight c.args.call.now in
    let T : Option (List ℕ) → Type 0 = λ o. Took (DoesRead rules call (order_given o)) (TellsSome TellsPlace call.places) s empty u empty in
    took_read rules s u call (order_given (option_map items_of c.args.places.now)) (subst T c.lent.ensures (c.in-Ok.ensures.taken empty))
