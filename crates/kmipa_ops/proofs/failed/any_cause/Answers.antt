use Rattle.std.proofs.Common.{◌∙◌, ◌≤◌, List, length, subst, sym}
use Rattle.kmipa_msgs.specs.declared.rules.Row.{Row}
use Rattle.kmipa_ops.proofs.ScanLemmas.{any_past}
use Rattle.kmipa_ops.proofs.failed.any_cause.Goals as goal

pub returns : goal.returns
returns g c = sym (c.loop-row.invariant ∙ any_past _ c.args.rules.now.rows.items c.loop-row.row-index (subst (λ (rows : List Row). length rows ≤ c.loop-row.row-index) c.deref-row-items.ensures.value c.loop-row-test.false))
