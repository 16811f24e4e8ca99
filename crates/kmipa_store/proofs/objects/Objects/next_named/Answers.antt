use Rattle.std.proofs.Common.{◌∙◌, sym}
use Rattle.kmipa_store.specs.Ledger.{held}
use Rattle.kmipa_store.specs.Queries.{has_name}
use Rattle.kmipa_store.proofs.QueryLemmas.{position_here, position_on}
use Rattle.kmipa_store.proofs.objects.Objects.next_named.Goals as goal

pub returns-then-has_name-clause-place : goal.returns-then-has_name-clause-place
returns-then-has_name-clause-place c =
    sym (c.loop-place.invariant
    ∙ position_here (has_name c.args.value.now c.args.kind) c.args.self.now c.loop-place.place (held c.at.result.now) c.at.ensures (sym c.has_name.ensures ∙ c.if-has_name.true))

pub loop-place-preserved : goal.loop-place-preserved
loop-place-preserved c =
    c.loop-place.invariant
    ∙ position_on (has_name c.args.value.now c.args.kind) c.args.self.now c.loop-place.place (held c.at.result.now) c.at.ensures (sym c.has_name.ensures ∙ c.if-has_name.false)
