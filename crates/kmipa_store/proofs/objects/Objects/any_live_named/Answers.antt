use Rattle.std.proofs.Common.{◌∙◌, ◌&&◌, sym}
use Rattle.kmipa_object.specs.Inventory.{live}
use Rattle.kmipa_store.specs.Ledger.{Held, held}
use Rattle.kmipa_store.specs.Queries.{has_name}
use Rattle.kmipa_store.proofs.QueryLemmas.{any_here, any_on}
use Rattle.kmipa_store.proofs.objects.Objects.any_live_named.Goals as goal

pub returns-then-is_live_named : goal.returns-then-is_live_named
returns-then-is_live_named c =
    sym (c.loop-place.invariant
    ∙ any_here (λ (h : Held). live h.card && has_name c.args.value.now c.args.kind h) c.args.self.now c.loop-place.place (held c.at.result.now) c.at.ensures (sym c.is_live_named.ensures ∙ c.if-is_live_named.true))

pub loop-place-preserved : goal.loop-place-preserved
loop-place-preserved c =
    c.loop-place.invariant
    ∙ any_on (λ (h : Held). live h.card && has_name c.args.value.now c.args.kind h) c.args.self.now c.loop-place.place (held c.at.result.now) c.at.ensures (sym c.is_live_named.ensures ∙ c.if-is_live_named.false)
