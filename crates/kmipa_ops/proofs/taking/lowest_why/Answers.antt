use Rattle.std.proofs.Common.{◌∙◌, ◌==◌, ℕ, ap, sym, refl, Some, None}
use Rattle.kmipa_msgs.specs.Messages.{answer_of, maybe_lent, rules_of}
use Rattle.kmipa_ops.specs.Asks.{ask_with}
use Rattle.kmipa_ops.specs.Objects.{is_other}
use Rattle.kmipa_ops.specs.Placeholders.{placeholder_of}
use Rattle.kmipa_ops.proofs.LowestLemmas.{other_lowest, own_lowest}
use Rattle.kmipa_ops.proofs.taking.lowest_why.Goals as goal

pub returns-in-Some : goal.returns-in-Some
returns-in-Some g c =
    own_lowest (rules_of c.args.before.rules.now) (g.L.Ledger.state c.args.ledger.now).now (placeholder_of c.args.before.placeholder.now) (g.L.Ledger.moment c.args.ledger.now) _
    (ask_with (maybe_lent c.args.frame.batch_id) (g.D.Deed.asked c.args.deed.now)) (answer_of c.args.answer.now) (Some c.in-Some.why)
    (sym (c.is_other_number.ensures ∙ ap (is_other (λ (x y : ℕ). x == y) c.args.answer.now.operation) c.requires.number) ∙ c.if-is_other_number.false) refl (sym c.in-Some.is ∙ c.in_ok-outcome.ensures)

pub returns-in-None : goal.returns-in-None
returns-in-None g c =
    c.echo_why.ensures
    ∙ own_lowest (rules_of c.args.before.rules.now) (g.L.Ledger.state c.args.ledger.now).now (placeholder_of c.args.before.placeholder.now) (g.L.Ledger.moment c.args.ledger.now) _
    (ask_with (maybe_lent c.args.frame.batch_id) (g.D.Deed.asked c.args.deed.now)) (answer_of c.args.answer.now) None
    (sym (c.is_other_number.ensures ∙ ap (is_other (λ (x y : ℕ). x == y) c.args.answer.now.operation) c.requires.number) ∙ c.if-is_other_number.false) refl (sym c.in-None.is ∙ c.in_ok-outcome.ensures)

pub returns-then-is_other_number : goal.returns-then-is_other_number
returns-then-is_other_number g c =
    other_lowest (rules_of c.args.before.rules.now) (g.L.Ledger.state c.args.ledger.now).now (placeholder_of c.args.before.placeholder.now) (g.L.Ledger.moment c.args.ledger.now)
    (ask_with (maybe_lent c.args.frame.batch_id) (g.D.Deed.asked c.args.deed.now)) (answer_of c.args.answer.now)
    (sym (c.is_other_number.ensures ∙ ap (is_other (λ (x y : ℕ). x == y) c.args.answer.now.operation) c.requires.number) ∙ c.if-is_other_number.true)
