use Rattle.std.proofs.Common.{ℕ, map, length, refl, arith, subst, sym}
use Rattle.std.proofs.lemmas.List.{length-map}
use Rattle.kmipa_orders.specs.Candidates.{candidate_step}
use Rattle.kmipa_orders.specs.Tries.{IsPick}
use Rattle.kmipa_orders.proofs.PickLemmas.{wished_to, picked_best, picked_none, preferred}
use Rattle.kmipa_orders.proofs.picking.pick_wished.Goals as goal

pub returns-in-Some-clause-picked : goal.returns-in-Some-clause-picked
returns-in-Some-clause-picked c = λ taken begun x cursor ranked line marked.
    let calls = map candidate_step c.args.calls.now in
    let P : ℕ → Type 0 = λ k. IsPick (map candidate_step c.args.calls.now) taken c.args.wishes.now.rank.items c.args.tried c.in-Some.place (wished_to c.args.tried k) in
    subst P (sym c.rank.ensures)
    (picked_best calls taken c.args.wishes.now.rank.items c.args.tried c.args.wishes.now refl (preferred (length calls) c.args.wishes.now ranked) c.if-tried.false cursor c.in-Some.place
    (omega (arith, c.in-Some.ensures.within, length-map c.args.calls.now candidate_step)) (λ below. c.in-Some.ensures.most taken x ranked line marked))

pub returns-in-None-clause-picked : goal.returns-in-None-clause-picked
returns-in-None-clause-picked c = λ taken begun x cursor ranked line marked.
    picked_none (map candidate_step c.args.calls.now) taken c.args.wishes.now.rank.items c.args.tried c.if-tried.false (c.in-None.ensures.most taken x ranked line marked)
