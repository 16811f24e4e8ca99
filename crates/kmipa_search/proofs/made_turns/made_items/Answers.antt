use Rattle.std.proofs.Common.{◌∙◌, ap, sym, length}
use Rattle.kmipa_lives.proofs.LedgerLemmas.{sound_as_before}
use Rattle.kmipa_search.proofs.made_turns.made_items.Goals as goal

pub back-requires : goal.back-requires
back-requires g c = c.in-Ok.ensures.meaning.0 ∙ ap length (sym c.items_along-made.ensures.marks)

pub returns-clause-sound : goal.returns-clause-sound
returns-clause-sound g c = sound_as_before (g.L.Ledger.state c.args.ledger.now) (g.L.Ledger.state c.mark.new.self) (g.L.Ledger.state c.items_along-made.new.ledger) (g.L.Ledger.state c.back.new.self) c.in-Ok.ensures.meaning.1 c.items_along-made.ensures.marks c.back.ensures.meaning c.requires
