use Rattle.std.proofs.Common.{◌≡◌, slice_index_or, true, sym, ◌∙◌, arith, rules}
use Rattle.std.proofs.lemmas.Option.{slice_get-get_or}
use Rattle.kmipa_check.proofs.PlaceLemmas.{at_contains, at_within}
use Rattle.kmipa_orders.proofs.TakenLemmas.{rising_more}
use Rattle.kmipa_orders.proofs.taken.are_marked.Goals as goal

pub run-preserved : goal.run-preserved
run-preserved c =
    let marked : c.is_marked.result ≡ true = search rules in
    rising_more c.args.flags.now c.args.rest.now c.args.low c.run.count c.run.least (slice_index_or c.args.rest.now c.run.count 0) c.run.invariant (omega (arith, c.run-test.true))
    (slice_get-get_or c.args.rest.now c.run.count 0 (omega (arith, c.run-test.true))) (omega (arith, c.if-place-least.false)) (sym c.is_marked.ensures ∙ marked)

pub returns-clause-marked : goal.returns-clause-marked
returns-clause-marked c = λ t p has.
    let q = at_contains c.args.rest.now p has in
    let e = c.run.invariant.each q.0 p (let w = at_within c.args.rest.now q.0 p q.1 in omega (arith, w, c.run-test.false)) q.1 in
    e.2

pub returns-clause-past : goal.returns-clause-past
returns-clause-past c = λ t p has.
    let q = at_contains c.args.rest.now p has in
    let e = c.run.invariant.each q.0 p (let w = at_within c.args.rest.now q.0 p q.1 in omega (arith, w, c.run-test.false)) q.1 in
    e.0

pub returns-clause-rising : goal.returns-clause-rising
returns-clause-rising c = λ t i j d below within.
    c.run.invariant.rising i j (slice_index_or c.args.rest.now i d) (slice_index_or c.args.rest.now j d) below (omega (arith, within, c.run-test.false))
    (slice_get-get_or c.args.rest.now i d (omega (arith, below, within))) (slice_get-get_or c.args.rest.now j d within)
