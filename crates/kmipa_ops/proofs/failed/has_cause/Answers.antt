use Rattle.std.proofs.Common.{◌∙◌, ◌==◌, ◌&&◌, sym}
use Rattle.kmipa_store.specs.Ledger.{cards_of}
use Rattle.kmipa_msgs.specs.Messages.{RowOf, row_of, rules_of}
use Rattle.kmipa_ops.specs.Subjects.{subject_of}
use Rattle.kmipa_ops.specs.Founded.{holds_of}
use Rattle.kmipa_ops.specs.Placeholders.{placeholder_of}
use Rattle.kmipa_ops.proofs.ScanLemmas.{any_map}
use Rattle.kmipa_ops.proofs.failed.has_cause.Goals as goal

pub returns : goal.returns
returns g c =
    let rules = rules_of c.args.rules.now in
    let cs = cards_of (g.L.Ledger.state c.args.ledger.now).now.objects in
    let p = placeholder_of c.args.placeholder.now in
    let t = g.L.Ledger.moment c.args.ledger.now in
    let asked = subject_of c.args.subject in
    c.any_cause.ensures
    ∙ sym (any_map (λ (row : RowOf). (row.reason == c.args.reason) && holds_of rules cs p t asked row.cause) row_of c.args.rules.now.rows.items)
