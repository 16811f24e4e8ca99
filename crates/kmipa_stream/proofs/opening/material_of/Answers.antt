use Rattle.std.proofs.Common.{◌∙◌, Some, option_map, sym, ap}
use Rattle.kmipa_record.specs.Entries.{entry_of, items_of}
use Rattle.kmipa_check.proofs.DeclareLemmas.{placed_known}
use Rattle.kmipa_stream.proofs.opening.material_of.Goals as goal

pub returns-in_ok-learn-in-Some : goal.returns-in_ok-learn-in-Some
returns-in_ok-learn-in-Some g c =
    placed_known (g.L.Ledger.state c.args.ledger.now) (g.L.Ledger.state c.new_secret.new.self) (g.L.Ledger.state c.learn.new.self) (entry_of c.args.entry.now) c.of.result c.in_ok-secret.secret
    c.deref.result.now (sym c.is_some.ensures ∙ c.if-is_some.false) c.of.ensures (ap (option_map items_of) c.in-Some.is ∙ ap Some (sym c.deref.ensures.value)) c.in_ok-secret.ensures.meaning
    c.in_ok-learn-in-Some.ensures.meaning
