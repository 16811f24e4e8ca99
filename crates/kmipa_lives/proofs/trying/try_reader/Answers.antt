use Rattle.std.proofs.Common.{◌≡◌, ◌∙◌, ap, sym, length}
use Rattle.kmipa_store.specs.Ledger.{LedgerState}
use Rattle.kmipa_lives.proofs.LedgerLemmas.{back_as_before, sound_as_before}
use Rattle.kmipa_lives.proofs.trying.try_reader.Goals as goal

pub back-requires : goal.back-requires
back-requires g c = c.in-Ok.ensures.meaning.0 ∙ ap length (sym c.is_left_by-tried.ensures)

pub returns-clause-marks : goal.returns-clause-marks
returns-clause-marks g c = ap (λ (x : LedgerState). x.marks) (back_as_before (g.L.Ledger.state c.args.ledger.now) (g.L.Ledger.state c.mark.new.self) (g.L.Ledger.state c.is_left_by-tried.new.ledger) (g.L.Ledger.state c.back.new.self) c.in-Ok.ensures.meaning.1 c.is_left_by-tried.ensures c.back.ensures.meaning)

pub returns-clause-sound : goal.returns-clause-sound
returns-clause-sound g c = sound_as_before (g.L.Ledger.state c.args.ledger.now) (g.L.Ledger.state c.mark.new.self) (g.L.Ledger.state c.is_left_by-tried.new.ledger) (g.L.Ledger.state c.back.new.self) c.in-Ok.ensures.meaning.1 c.is_left_by-tried.ensures c.back.ensures.meaning c.requires
