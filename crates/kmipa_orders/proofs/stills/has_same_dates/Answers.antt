use Rattle.std.proofs.Common.{◌≡◌, rules}
use Rattle.kmipa_orders.proofs.stills.has_same_dates.Goals as goal

pub returns : goal.returns
returns c = λ t.
    let a : c.args.one.now.initial ≡ c.args.other.now.initial = search rules in
    let b : c.args.one.now.activation ≡ c.args.other.now.activation = search rules in
    let d : c.args.one.now.deactivation ≡ c.args.other.now.deactivation = search rules in
    let e : c.args.one.now.destroy ≡ c.args.other.now.destroy = search rules in
    let f : c.args.one.now.compromise ≡ c.args.other.now.compromise = search rules in
    cc
