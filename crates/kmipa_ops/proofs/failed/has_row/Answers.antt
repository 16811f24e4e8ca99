use Rattle.std.proofs.Common.{◌∙◌, ◌==◌, ap, sym}
use Rattle.std.specs.List.{list_any}
use Rattle.kmipa_msgs.specs.Messages.{RowOf, row_of}
use Rattle.kmipa_msgs.specs.declared.rules.Row.{Row}
use Rattle.kmipa_ops.proofs.ScanLemmas.{any_map}
use Rattle.kmipa_ops.proofs.failed.has_row.Goals as goal

pub returns : goal.returns
returns c =
    c.any_reason.ensures ∙ ap (list_any (λ (row : Row). row.reason == c.args.reason)) c.as_slice.ensures.value
    ∙ sym (any_map (λ (row : RowOf). row.reason == c.args.reason) row_of c.args.rules.now.rows.items)
