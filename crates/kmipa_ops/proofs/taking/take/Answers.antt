use Rattle.std.proofs.Common.{◌∙◌}
use Rattle.std.specs.Int.{w64}
use Rattle.std.proofs.lemmas.Int.{to_z-of_z}
use Rattle.kmipa_msgs.specs.Messages.{answer_of, ask_of, rules_of}
use Rattle.kmipa_ops.specs.Placeholders.{placeholder_of}
use Rattle.kmipa_ops.proofs.TakenLemmas.{taken_from}
use Rattle.kmipa_ops.proofs.taking.take.Goals as goal

pub returns : goal.returns
returns g c =
    taken_from (rules_of c.args.rules.now) (g.L.Ledger.state c.args.ledger.now) (g.L.Ledger.state c.prepare_for.new.ledger) (placeholder_of c.args.placeholder.now) c.args.t (g.L.Ledger.moment c.prepare_for.new.ledger)
    (ask_of c.args.ask.now) (answer_of c.args.answer.now) c.take_asked.result (g.L.Ledger.state c.take_asked.new.ledger) (placeholder_of c.take_asked.new.placeholder)
    (c.prepare_for.ensures.meaning ∙ c.set_moment.ensures.meaning) (c.prepare_for.ensures.moment ∙ c.set_moment.ensures.moment ∙ to_z-of_z w64 c.args.t c.ranges.t) c.take_asked.ensures
