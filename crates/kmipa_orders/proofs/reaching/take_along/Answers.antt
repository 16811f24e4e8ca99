use Rattle.std.proofs.Common.{◌∙◌, map, ap, sym, subst, rules}
use Rattle.std.specs.Prelude.{not}
use Rattle.kmipa_store.specs.Ledger.{LedgerState}
use Rattle.kmipa_msgs.specs.Messages.{RulesOf, rules_of}
use Rattle.kmipa_batch.specs.Refusals.{CallExplainsAlong}
use Rattle.kmipa_check.specs.Steps.{order_of}
use Rattle.kmipa_orders.specs.Candidates.{candidate_step}
use Rattle.kmipa_orders.specs.Reaching.{AreTaken}
use Rattle.kmipa_check.proofs.PlaceLemmas.{contains_at, mapped_at}
use Rattle.kmipa_orders.proofs.ReachedLemmas.{none_taken, some_taken, taken_more}
use Rattle.kmipa_orders.proofs.reaching.take_along.Goals as goal

pub try_call-requires-clause-readable : goal.try_call-requires-clause-readable
try_call-requires-clause-readable g c =
    c.requires.readable (candidate_step c.index-calls-place.result)
    (contains_at (map candidate_step c.args.calls.now) c.in-Some.place (candidate_step c.index-calls-place.result)
    (mapped_at candidate_step c.args.calls.now c.in-Some.place c.index-calls-place.result c.in-Some.ensures.within c.index-calls-place.is))

pub returns-then-is_none-clause-taken : goal.returns-then-is_none-clause-taken
returns-then-is_none-clause-taken g c = λ declared is begun known remaining.
    let s = g.L.Ledger.state c.order.ledger in
    let u = g.L.Ledger.state c.try_call.new.ledger in
    let same = none_taken (rules_of c.args.rules.now) s u (candidate_step c.index-calls-place.result) c.in_ok-try_call.field-0 (c.is_none.ensures ∙ ap not c.if-is_none.true) c.in_ok-try_call.ensures in
    let P : LedgerState → Type 0 = λ v. AreTaken declared (map candidate_step c.args.calls.now) c.order.remaining v.now c.order.taken.items in
    subst P (sym same) (c.order.invariant.taken declared is begun known remaining)

pub order-preserved : goal.order-preserved
order-preserved g c =
    let calls = map candidate_step c.args.calls.now in
    let s = g.L.Ledger.state c.order.ledger in
    let u = g.L.Ledger.state c.try_call.new.ledger in
    let call = candidate_step c.index-calls-place.result in
    let there = mapped_at candidate_step c.args.calls.now c.in-Some.place c.index-calls-place.result c.in-Some.ensures.within c.index-calls-place.is in
    let e = some_taken (rules_of c.args.rules.now) s u call c.in_ok-try_call.field-0 (c.is_none.ensures ∙ ap not c.if-is_none.false) c.in_ok-try_call.ensures in
    record {
      sound = e.1;
      taken = λ declared is begun known remaining.
          let t = c.order.invariant.taken declared is begun known remaining in
          let next = c.in-Some.ensures.next t.taken begun t.remaining in
          let R : RulesOf → Type 0 = λ r. CallExplainsAlong r s.now call.request call.response (order_of call) u.now in
          taken_more declared calls c.order.remaining s.now c.order.taken.items t c.in-Some.place call c.take.new.self u.now _ c.push.new.self.items there (subst R is e.0)
          (c.take.ensures t.taken t.remaining next) (search rules) c.in_ok-push.ensures.items;
    }
