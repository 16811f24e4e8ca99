use Rattle.std.proofs.Common.{◌+ℤ◌, ◌≤ℤ◌, ◌<ℤ◌, rules}
use Rattle.std.specs.Int.Signed.{clash_ℤ}
use Rattle.kmipa_orders.specs.Candidates.{candidate_step}
use Rattle.kmipa_orders.proofs.forced.are_within.Goals as goal

pub returns-then-stamp-later : goal.returns-then-stamp-later
returns-then-stamp-later c = λ near.
    let far : ((candidate_step c.args.other.now).response.stamp +ℤ (c.args.tolerance +ℤ c.args.tolerance)) <ℤ (candidate_step c.args.one.now).response.stamp = search rules in
    clash_ℤ far near.1

pub returns : goal.returns
returns c =
    let below : (candidate_step c.args.other.now).response.stamp ≤ℤ ((candidate_step c.args.one.now).response.stamp +ℤ (c.args.tolerance +ℤ c.args.tolerance)) = search rules in
    let above : (candidate_step c.args.one.now).response.stamp ≤ℤ ((candidate_step c.args.other.now).response.stamp +ℤ (c.args.tolerance +ℤ c.args.tolerance)) = search rules in
    (below, above)
