use Rattle.std.proofs.Common.{◌∙◌, ap, map, ℕ, ℤ, List}
use denote.Bor.{Bor}
use Rattle.std.specs.Int.{w64}
use Rattle.std.proofs.lemmas.Int.{to_z-of_z}
use Rattle.kmipa_attrs.specs.Filters.{filter_of}
use Rattle.kmipa_msgs.specs.Messages.{lent}
use Rattle.kmipa_store.specs.Ledger.{cards_of}
use Rattle.kmipa_aside.specs.Missed.{missed_of}
use Rattle.kmipa_aside.proofs.missed.missed_hidden.Goals as goal

pub returns : goal.returns
returns g c =
    let cs = cards_of (g.L.Ledger.state c.args.ledger.now).now.objects in
    let q = filter_of c.args.filter.now in
    let listed = map lent c.args.listed.now in
    c.in_ok-ids.ensures
    ∙ ap (λ (z : ℤ). missed_of cs z q listed (map lent c.as_slice.result.now)) (to_z-of_z w64 c.args.t c.ranges.t)
    ∙ ap (λ (ids : List (Bor (List ℕ))). missed_of cs c.args.t q listed (map lent ids)) c.as_slice.ensures.value
    ∙ ap (missed_of cs c.args.t q listed) c.in_ok-hidden.ensures
