use Rattle.std.proofs.Common.{ℕ, List, Option, option_map, subst}
use Rattle.kmipa_msgs.specs.Messages.{maybe_lent, rules_of}
use Rattle.kmipa_record.specs.Entries.{items_of}
use Rattle.kmipa_batch.specs.Orders.{order_given}
use Rattle.kmipa_bundle.specs.Bundles.{call_seen}
use Rattle.kmipa_bundle.specs.Counts.{CallCounted}
use Rattle.kmipa_bundle.specs.Refusals.{CallTaken}
use Rattle.kmipa_trail.proofs.StepLemmas.{read_marks, read_taken}
use Rattle.kmipa_trail.proofs.step.take_read.Goals as goal

pub returns-clause-taken : goal.returns-clause-taken
returns-clause-taken g c =
    let rules = rules_of c.args.sight.rules.now in
    let s = g.L.Ledger.state c.args.ledger.now in
    let u = g.L.Ledger.state c.take_call.new.ledger in
    let call = call_seen c.args.sight c.args.call.now in
    let T : Option (List ℕ) → Type 0 = λ o. CallTaken rules s call (order_given o) c.take_call.result u in
    let C : Option (List ℕ) → Type 0 = λ o. CallCounted rules s call (order_given o) c.take_call.result u in
    read_taken rules s u call (option_map items_of c.args.places.now) c.take_call.result (subst T c.lent.ensures c.take_call.ensures.taken) (subst C c.lent.ensures c.take_call.ensures.counted)

pub returns-clause-marks : goal.returns-clause-marks
returns-clause-marks g c =
    read_marks (rules_of c.args.sight.rules.now) (g.L.Ledger.state c.args.ledger.now) (call_seen c.args.sight c.args.call.now) (order_given (maybe_lent c.lent.result)) c.take_call.result
    (g.L.Ledger.state c.take_call.new.ledger) c.take_call.ensures.taken
