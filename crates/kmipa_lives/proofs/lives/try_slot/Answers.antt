use Rattle.std.proofs.Common.{◌≡◌, ◌∙◌, ap, sym, length}
use Rattle.kmipa_store.specs.Ledger.{LedgerState}
use Rattle.kmipa_lives.proofs.LedgerLemmas.{sound_as_before}
use Rattle.kmipa_lives.proofs.lives.try_slot.Goals as goal

pub back-requires : goal.back-requires
back-requires g c = c.in-Ok.ensures.meaning.0 ∙ ap length (sym c.try_readers-tried.ensures)

pub returns : goal.returns
returns g c = sound_as_before (g.L.Ledger.state c.args.ledger.now) (g.L.Ledger.state c.mark.new.self) (g.L.Ledger.state c.try_readers-tried.new.ledger) (g.L.Ledger.state c.back.new.self) c.in-Ok.ensures.meaning.1 c.try_readers-tried.ensures c.back.ensures.meaning c.requires
