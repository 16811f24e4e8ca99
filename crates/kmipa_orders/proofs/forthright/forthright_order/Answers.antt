use Rattle.std.proofs.Common.{◌<◌, ℕ, List, All, length, sym, subst}
use Rattle.std.proofs.lemmas.List.Elements.{All-push}
use Rattle.kmipa_orders.proofs.forthright.forthright_order.Goals as goal

pub places-preserved : goal.places-preserved
places-preserved c =
    let P : ℕ → Type 0 = λ place. place < length c.args.calls.now in
    let Q : List ℕ → Type 0 = λ places. All P places in
    subst Q (sym c.in_ok-push.ensures.items) (All-push P c.places.order.items c.in-Some.pick.place c.places.invariant c.in-Some.ensures.within)
