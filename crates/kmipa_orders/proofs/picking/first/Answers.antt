use Rattle.std.proofs.Common.{map, arith}
use Rattle.std.proofs.lemmas.List.{length-map}
use Rattle.kmipa_orders.specs.Candidates.{candidate_step}
use Rattle.kmipa_orders.proofs.PickLemmas.{passed_on, passed_all}
use Rattle.kmipa_orders.proofs.picking.first.Goals as goal

pub run-preserved : goal.run-preserved
run-preserved c = λ taken begun x cursor.
    let h = c.run.invariant taken begun x cursor in
    passed_on (map candidate_step c.args.calls.now) taken c.args.wishes.now.rank.items c.args.tried c.run.from h c.in-Some.place (c.in-Some.ensures.next taken begun x h.cursor)
    (omega (arith, c.if-rank-tried.false, c.rank.ensures))

pub returns-clause-first : goal.returns-clause-first
returns-clause-first c = λ taken begun x cursor.
    passed_all (map candidate_step c.args.calls.now) taken c.args.wishes.now.rank.items c.args.tried c.run.from (c.run.invariant taken begun x cursor)
    (omega (arith, c.run-test.false, length-map c.args.calls.now candidate_step))
