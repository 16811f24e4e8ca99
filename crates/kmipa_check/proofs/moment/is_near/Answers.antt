use Rattle.std.proofs.Common.{◌+ℤ◌, ◌≤ℤ◌, rules}
use Rattle.kmipa_check.proofs.moment.is_near.Goals as goal

pub returns : goal.returns
returns c =
    let below : c.args.moment ≤ℤ (c.args.stamp +ℤ c.args.tolerance) = search rules in
    let above : c.args.stamp ≤ℤ (c.args.moment +ℤ c.args.tolerance) = search rules in
    (below, above)
