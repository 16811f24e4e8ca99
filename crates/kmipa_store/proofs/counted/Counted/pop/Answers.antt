use Rattle.std.proofs.Common.{ap, ◌∙◌, ◌-◌, ℕ}
use Rattle.kmipa_store.specs.Ledger.{held}
use Rattle.kmipa_store.proofs.LiveNameLemmas.{knows_popped}
use Rattle.kmipa_store.proofs.TallyLemmas.{counts_fewer}
use Rattle.kmipa_store.proofs.counted.Counted.pop.Goals as goal

pub invariant_of-self : goal.invariant_of-self
invariant_of-self c =
    let i = c.self.inside in (
      counts_fewer i.tally c.remove.new.self i.objects c.pop.new.self c.len.result c.in-Some.last (held c.at-popped.result.now) c.self.invariant.0 c.len.ensures c.in-Some.ensures c.at-popped.ensures c.pop.ensures c.remove.ensures,
      knows_popped i.live c.forget.new.self i.objects c.pop.new.self c.in-Some.last c.self.invariant.1 (c.in-Some.ensures.1 ∙ ap (λ (n : ℕ). n - 1) c.len.ensures) c.forget.ensures c.pop.ensures,
    )
