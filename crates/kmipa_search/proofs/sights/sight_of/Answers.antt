use Rattle.kmipa_store.specs.Ledger.{held}
use Rattle.kmipa_store.proofs.SoundLemmas.{number_below}
use Rattle.kmipa_search.proofs.sights.sight_of.Goals as goal

pub bytes_of-requires : goal.bytes_of-requires
bytes_of-requires g c = λ secret is.
    number_below (g.L.Ledger.state c.args.ledger.now).now c.in-Some.place (held c.at-object.result.now) secret c.requires c.at-object.ensures is
