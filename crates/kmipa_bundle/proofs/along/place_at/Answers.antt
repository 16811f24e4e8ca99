use Rattle.std.proofs.Common.{◌≡◌, ◌<◌, ◌+◌, ◌-◌, ℕ, List, length, Option, Some, IfSome, slice_get, slice_index_or, sym, ap, subst}
use Rattle.kmipa_msgs.specs.Messages.{maybe_lent}
use Rattle.kmipa_batch.specs.Orders.{order_given}
use Rattle.kmipa_batch.specs.Running.{places_of}
use Rattle.kmipa_batch.proofs.OrderLemmas.{by_place_at, given_at}
use Rattle.kmipa_bundle.proofs.along.place_at.Goals as goal

pub returns-in-None-clause-there : goal.returns-in-None-clause-there
returns-in-None-clause-there c =
    let P : Option (List ℕ) → Type 0 = λ o. slice_get (places_of (order_given o) (c.args.position + 1)) c.args.position ≡ Some c.args.position in
    subst P (sym (ap maybe_lent c.in-None.is)) (by_place_at c.args.position)

pub returns-in-Some-clause-there : goal.returns-in-Some-clause-there
returns-in-Some-clause-there c =
    let places : List ℕ = c.in-Some.places.now in
    let P : Option (List ℕ) → Type 0 = λ o. slice_get (places_of (order_given o) (c.args.position + 1)) c.args.position ≡ Some (slice_index_or places c.args.position 0 - 1) in
    let Q : Option (List ℕ) → Type 0 = λ o. IfSome o (λ ps. c.args.position < length ps) in
    subst P (sym (ap maybe_lent c.in-Some.is)) (given_at places (c.args.position + 1) c.args.position 0 (subst Q (ap maybe_lent c.in-Some.is) c.requires.within))
