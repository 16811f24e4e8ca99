use Rattle.std.proofs.Common.{◌∙◌, ℕ, length, sym, subst}
use Rattle.kmipa_orders.specs.Wished.{IsAlong}
use Rattle.kmipa_orders.proofs.WishLemmas.{along_begins, along_behind}
use Rattle.kmipa_orders.proofs.picking.first_rank.Goals as goal

pub returns-then-rank-tried : goal.returns-then-rank-tried
returns-then-rank-tried c = λ calls taken ranked line marked.
    let P : ℕ → Type 0 = λ r. IsAlong calls taken c.args.wishes.now.rank.items c.args.tried r in
    let left = c.is_left.ensures (length calls) taken marked c.if-is_left.true in
    subst P (sym c.after.ensures)
    (along_behind calls taken c.args.wishes.now.order.items c.args.wishes.now.rank.items c.args.by_wish.now.after.items c.args.by_wish.now.before.items ranked line c.args.tried
    (c.place-place.result, left.0, sym c.rank.ensures ∙ c.if-rank-tried.true, left.1))

pub returns : goal.returns
returns c = λ calls taken ranked line marked.
    let P : ℕ → Type 0 = λ r. IsAlong calls taken c.args.wishes.now.rank.items c.args.tried r in
    subst P (sym c.after-2.ensures)
    (along_begins calls taken c.args.wishes.now.order.items c.args.wishes.now.rank.items c.args.by_wish.now.after.items c.args.by_wish.now.before.items ranked line c.args.tried)
