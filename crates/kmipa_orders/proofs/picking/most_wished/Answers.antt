use Rattle.std.proofs.Common.{◌≡◌, ◌<◌, ◌≤◌, ℕ, map, length, Contains, sym, subst, arith}
use Rattle.std.proofs.lemmas.List.{length-map}
use Rattle.kmipa_orders.specs.Candidates.{candidate_step}
use Rattle.kmipa_orders.specs.Links.{at}
use Rattle.kmipa_orders.specs.Wished.{IsAlong}
use Rattle.kmipa_orders.proofs.CandidateLemmas.{candidates_ended}
use Rattle.kmipa_orders.proofs.RemainingLemmas.{remaining_next, remaining_other}
use Rattle.kmipa_orders.proofs.WishLemmas.{along_past, along_place, along_on, along_onward, along_found, along_closed}
use Rattle.kmipa_orders.proofs.picking.most_wished.Goals as goal

pub run-init : goal.run-init
run-init c = λ taken x ranked line marked. c.first_rank-rank.ensures (map candidate_step c.args.calls.now) taken ranked line marked

pub returns-then-is_open-clause-most : goal.returns-then-is_open-clause-most
returns-then-is_open-clause-most c = λ taken x ranked line marked.
    let calls = map candidate_step c.args.calls.now in
    let W = c.args.wishes.now in
    let L = c.args.by_wish.now in
    let a = c.run.invariant taken x ranked line marked in
    let same = length-map c.args.calls.now candidate_step in
    let within : c.run.rank ≤ length calls = omega (arith, c.run-test.true, same) in
    let P : ℕ → Type 0 = λ p. (p < length calls) × (at W.rank.items p ≡ c.run.rank) × (Contains taken p → ⊥) in
    let there = subst P (sym c.place-place.ensures) (along_place calls taken W.order.items W.rank.items L.after.items L.before.items ranked line c.args.tried c.run.rank a within) in
    along_found calls taken W.order.items W.rank.items L.after.items L.before.items ranked line c.args.tried c.run.rank a within c.place-place.result c.place-place.ensures
    (remaining_next calls taken c.args.remaining.now x (candidates_ended c.args.calls.now) c.place-place.result c.least-least.result c.soonest-soonest.result c.least-least.ensures c.soonest-soonest.ensures there.0 there.2
    (λ h s. c.is_open.ensures.yes c.if-is_open.true (omega (arith, h, same)) (omega (arith, s, same))))
    (c.is_open.ensures.from c.if-is_open.true) (c.is_open.ensures.done c.if-is_open.true)

pub returns-then-after-rank-clause-most : goal.returns-then-after-rank-clause-most
returns-then-after-rank-clause-most c = λ taken x ranked line marked q o.
    let calls = map candidate_step c.args.calls.now in
    let W = c.args.wishes.now in
    let L = c.args.by_wish.now in
    let within : c.run.rank ≤ length calls = omega (arith, c.run-test.true, length-map c.args.calls.now candidate_step) in
    omega (
      arith,
      c.if-after-rank.true,
      c.after-after.ensures,
      along_onward calls taken W.order.items W.rank.items L.after.items L.before.items ranked line c.args.tried c.run.rank (c.run.invariant taken x ranked line marked) within,
    )

pub run-preserved : goal.run-preserved
run-preserved c = λ taken x ranked line marked.
    let calls = map candidate_step c.args.calls.now in
    let W = c.args.wishes.now in
    let L = c.args.by_wish.now in
    let a = c.run.invariant taken x ranked line marked in
    let same = length-map c.args.calls.now candidate_step in
    let within : c.run.rank ≤ length calls = omega (arith, c.run-test.true, same) in
    let P : ℕ → Type 0 = λ p. (p < length calls) × (at W.rank.items p ≡ c.run.rank) × (Contains taken p → ⊥) in
    let there = subst P (sym c.place-place.ensures) (along_place calls taken W.order.items W.rank.items L.after.items L.before.items ranked line c.args.tried c.run.rank a within) in
    let Q : ℕ → Type 0 = λ r. IsAlong calls taken W.rank.items c.args.tried r in
    subst Q (sym c.after-after.ensures)
    (along_on calls taken W.order.items W.rank.items L.after.items L.before.items ranked line c.args.tried c.run.rank a within
    (along_closed calls taken W.order.items W.rank.items L.after.items L.before.items ranked line c.args.tried c.run.rank a within c.place-place.result c.place-place.ensures
    (λ done from. remaining_other calls taken c.args.remaining.now x (candidates_ended c.args.calls.now) c.place-place.result c.least-least.result c.soonest-soonest.result c.least-least.ensures c.soonest-soonest.ensures there.0 there.2
    (λ h s. c.is_open.ensures.no c.if-is_open.false done from (let t = there.0 in omega (arith, t, same)) (omega (arith, h, same)) (omega (arith, s, same))))))

pub returns-clause-most : goal.returns-clause-most
returns-clause-most c = λ taken x ranked line marked.
    let W = c.args.wishes.now in
    let L = c.args.by_wish.now in
    along_past (map candidate_step c.args.calls.now) taken W.order.items W.rank.items L.after.items L.before.items ranked line c.args.tried c.run.rank (c.run.invariant taken x ranked line marked)
    (omega (arith, c.run-test.false, length-map c.args.calls.now candidate_step))
