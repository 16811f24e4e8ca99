use Rattle.std.proofs.Common.{◌∙◌, sym}
use Rattle.kmipa_store.specs.Ledger.{held}
use Rattle.kmipa_store.specs.Queries.{has_name_alive}
use Rattle.kmipa_store.proofs.QueryLemmas.{position_here, position_on}
use Rattle.kmipa_store.proofs.objects.Objects.next_live_named.Goals as goal

pub returns-then-is_live_named-clause-place : goal.returns-then-is_live_named-clause-place
returns-then-is_live_named-clause-place c =
    sym (c.loop-next.invariant
    ∙ position_here (has_name_alive c.args.value.now c.args.kind) c.args.self.now c.loop-next.next (held c.at.result.now) c.at.ensures (sym c.is_live_named.ensures ∙ c.if-is_live_named.true))

pub loop-next-preserved : goal.loop-next-preserved
loop-next-preserved c =
    c.loop-next.invariant
    ∙ position_on (has_name_alive c.args.value.now c.args.kind) c.args.self.now c.loop-next.next (held c.at.result.now) c.at.ensures (sym c.is_live_named.ensures ∙ c.if-is_live_named.false)
