use Rattle.std.proofs.Common.{◌≡◌, ◌==◌, ◌&&◌, drop}
use Rattle.std.specs.List.{list_any}
use Rattle.kmipa_store.specs.Ledger.{cards_of}
use Rattle.kmipa_ops.specs.Subjects.{subject_of}
use Rattle.kmipa_msgs.specs.Messages.{rules_of}
use Rattle.kmipa_msgs.specs.declared.rules.Row.{Row}
use Rattle.kmipa_ops.specs.Founded.{holds_of}
use Rattle.kmipa_ops.specs.Placeholders.{placeholder_of}
use Rattle.kmipa_ops.proofs.failed.any_cause.Given as goal

abbrev pub invariant-loop-row : goal.invariant-loop-row
invariant-loop-row g l =
    list_any (λ (row : Row). (row.reason == l.reason) && holds_of (rules_of l.rules) (cards_of (g.L.Ledger.state l.ledger).now.objects) (placeholder_of l.placeholder) (g.L.Ledger.moment l.ledger) (subject_of l.subject) row.cause) l.rules.rows.items
    ≡ list_any (λ (row : Row). (row.reason == l.reason) && holds_of (rules_of l.rules) (cards_of (g.L.Ledger.state l.ledger).now.objects) (placeholder_of l.placeholder) (g.L.Ledger.moment l.ledger) (subject_of l.subject) row.cause) (drop l.row-index l.rules.rows.items)
