use Rattle.std.proofs.Common.{◌∙◌, sym, refl}
use Rattle.kmipa_msgs.specs.Messages.{answer_of, maybe_lent, rules_of}
use Rattle.kmipa_ops.specs.Asks.{ask_with}
use Rattle.kmipa_ops.specs.Placeholders.{placeholder_of}
use Rattle.kmipa_ops.proofs.ExplainLemmas.{refuted, took}
use Rattle.kmipa_ops.proofs.LowestLemmas.{done_unopposed}
use Rattle.kmipa_ops.proofs.taking.take_deed.Goals as goal

pub returns-in-Some : goal.returns-in-Some
returns-in-Some g c = (
  refuted (rules_of c.args.frame.rules.now) (g.L.Ledger.state c.args.ledger.now).now (placeholder_of c.args.placeholder.now) (g.L.Ledger.moment c.args.ledger.now)
      (ask_with (maybe_lent c.args.frame.batch_id) (g.D.Deed.asked c.args.deed.now)) (answer_of c.args.answer.now) c.in-Some.why (sym (sym c.in-Some.is ∙ c.in-Ok.ensures)),
  refl,
  refl,
)

pub returns-in-Ok-leave : goal.returns-in-Ok-leave
returns-in-Ok-leave g c =
    took (rules_of c.args.frame.rules.now) (g.L.Ledger.state c.args.ledger.now) (placeholder_of c.args.placeholder.now) (g.L.Ledger.moment c.args.ledger.now)
    (ask_with (maybe_lent c.args.frame.batch_id) (g.D.Deed.asked c.args.deed.now)) (answer_of c.args.answer.now) (g.L.Ledger.state c.leave.new.ledger) (placeholder_of c.leave.new.placeholder)
    c.requires.sound c.requires.readable (c.brings_bytes.ensures, c.shows_bytes.ensures) (sym (sym c.in-None.is ∙ c.in-Ok.ensures)) c.in-Ok-leave.ensures.0 c.in-Ok-leave.ensures.1

pub leave-requires-clause-unopposed : goal.leave-requires-clause-unopposed
leave-requires-clause-unopposed g c =
    done_unopposed (rules_of c.args.frame.rules.now) (g.L.Ledger.state c.args.ledger.now).now (placeholder_of c.args.placeholder.now) (g.L.Ledger.moment c.args.ledger.now)
    (ask_with (maybe_lent c.args.frame.batch_id) (g.D.Deed.asked c.args.deed.now)) (answer_of c.args.answer.now) (sym (sym c.in-None.is ∙ c.in-Ok.ensures))
