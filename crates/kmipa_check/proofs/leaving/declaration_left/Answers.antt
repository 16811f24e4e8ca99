use Rattle.kmipa_store.specs.Ledger.{held}
use Rattle.kmipa_store.proofs.SoundLemmas.{number_below}
use Rattle.kmipa_check.proofs.AscendLemmas.{left_next}
use Rattle.kmipa_check.proofs.leaving.declaration_left.Goals as goal

pub entry_left-requires : goal.entry_left-requires
entry_left-requires g c = λ secret is. number_below (g.L.Ledger.state c.args.ledger.now).now c.places.place (held c.at-object.result.now) secret c.requires c.at-object.ensures is

pub places-preserved : goal.places-preserved
places-preserved g c =
    left_next c.places.entries.items c.push.new.self.items c.in_ok-entry_left.field-0 (g.L.Ledger.state c.args.ledger.now).now.secrets (g.L.Ledger.state c.args.ledger.now).now.objects c.places.place
    (held c.at-object.result.now) c.at-object.ensures c.places.invariant c.in_ok-entry_left.ensures c.in_ok-push.ensures.items
