use Rattle.std.proofs.Common.{ℕ, length, subst}
use Rattle.std.proofs.lemmas.List.{length-map}
use Rattle.kmipa_orders.specs.Candidates.{candidate_step}
use Rattle.kmipa_orders.specs.Ranks.{IsRanked, InAnyOrder}
use Rattle.kmipa_orders.proofs.PickLemmas.{preferred}
use Rattle.kmipa_orders.proofs.picking.pick_left.Goals as goal

pub returns-clause-picked : goal.returns-clause-picked
returns-clause-picked c = λ taken begun x cursor ranked line marked.
    let W = c.args.wishes.now in
    let R : ℕ → Type 0 = λ n. IsRanked n InAnyOrder c.args.wishes.now.order.items c.args.wishes.now.rank.items in
    c.pick.ensures.picked taken begun x cursor (preferred (length c.args.calls.now) W (subst R (length-map c.args.calls.now candidate_step) ranked))
