use Rattle.std.proofs.Common.{◌≡◌, ◌∙◌, ap, sym, length}
use Rattle.kmipa_store.specs.Ledger.{LedgerState}
use Rattle.kmipa_lives.proofs.LedgerLemmas.{sound_as_before}
use Rattle.kmipa_lives.proofs.trying.try_change.Goals as goal

pub back-requires : goal.back-requires
back-requires g c = c.in-Ok.ensures.meaning.0 ∙ ap length (sym c.is_changed_behind-tried.ensures)

pub returns : goal.returns
returns g c = sound_as_before (g.L.Ledger.state c.args.ledger.now) (g.L.Ledger.state c.mark.new.self) (g.L.Ledger.state c.is_changed_behind-tried.new.ledger) (g.L.Ledger.state c.back.new.self) c.in-Ok.ensures.meaning.1 c.is_changed_behind-tried.ensures c.back.ensures.meaning c.requires
