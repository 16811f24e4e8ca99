use Rattle.std.proofs.Common.{ℕ, map, refl, arith, subst, sym}
use Rattle.std.proofs.lemmas.List.{length-map}
use Rattle.kmipa_orders.specs.Candidates.{candidate_step}
use Rattle.kmipa_orders.specs.Tries.{IsPick, IsPreferred}
use Rattle.kmipa_orders.proofs.PickLemmas.{wished_to, picked_best, picked_first}
use Rattle.kmipa_orders.proofs.picking.pick.Goals as goal

pub returns-then-place-calls-clause-picked : goal.returns-then-place-calls-clause-picked
returns-then-place-calls-clause-picked c = λ taken begun x cursor preferred.
    let calls = map candidate_step c.args.calls.now in
    let wishes = c.args.wishes.now.rank.items in
    let N : ℕ → Type 0 = λ n. IsPreferred n c.args.wishes.now in
    let P : ℕ → Type 0 = λ k. IsPick (map candidate_step c.args.calls.now) taken c.args.wishes.now.rank.items c.args.tried c.best-place.result (wished_to c.args.tried k) in
    subst P (sym c.rank.ensures)
    (picked_best calls taken wishes c.args.tried c.args.wishes.now refl (subst N (sym (length-map c.args.calls.now candidate_step)) preferred) c.if-tried.false cursor c.best-place.result
    (omega (arith, c.if-place-calls.true, length-map c.args.calls.now candidate_step)) (c.best-place.ensures taken begun x cursor))

pub returns-in-Some-clause-picked : goal.returns-in-Some-clause-picked
returns-in-Some-clause-picked c = λ taken begun x cursor preferred.
    picked_first (map candidate_step c.args.calls.now) taken c.args.wishes.now.rank.items c.args.tried c.if-tried.false c.in-Some.place (c.in-Some.ensures.first taken begun x cursor)
