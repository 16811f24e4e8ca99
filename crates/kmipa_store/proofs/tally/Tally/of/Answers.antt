use Rattle.std.proofs.Common.{◌≡◌, ◌∙◌, List, ap, sym, subst, take, ◌++◌, ◌∷◌, [], ◌+◌, add-one}
use Rattle.kmipa_store.specs.Ledger.{Held, held}
use Rattle.kmipa_store.specs.Tally.{Counts}
use Rattle.kmipa_store.proofs.ObjectLemmas.{take-next}
use Rattle.kmipa_store.proofs.TallyLemmas.{counts_pushed}
use Rattle.kmipa_store.proofs.tally.Tally.of.Goals as goal

pub loop-place-preserved : goal.loop-place-preserved
loop-place-preserved c =
    let place = c.loop-place.place in
    let objects = c.args.objects.now in
    let object = held c.at.result.now in
    let more : take (place + 1) objects ≡ take place objects ++ object ∷ [] = ap (λ n. take n objects) (add-one place) ∙ take-next objects place object c.at.ensures in
    subst (λ (hs : List Held). Counts c.add.new.self hs) (sym more) (counts_pushed c.loop-place.tally c.add.new.self (take place objects) object c.loop-place.invariant c.add.ensures)
