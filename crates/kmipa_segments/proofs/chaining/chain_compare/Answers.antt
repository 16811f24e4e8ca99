use Rattle.std.proofs.Common.{List, ℕ, inl, subst, sym}
use Rattle.kmipa_jobs.specs.declared.status.Status.{Status}
use Rattle.kmipa_segments.specs.Comparing.{PrintsCompared}
use Rattle.kmipa_segments.proofs.ChainingLemmas.{prints_named}
use Rattle.kmipa_segments.proofs.chaining.chain_compare.Goals as goal

pub returns-clause-prints : goal.returns-clause-prints
returns-clause-prints g c =
    let outcome = c.compare_input-compared.result in
    let P : Status → List ℕ → Type 0 = λ s l. PrintsCompared outcome s l in (
      outcome,
      c.compare_input-compared.ensures.compares,
      prints_named P c.args.name.now c.as_bytes.result.now c.in-Ok.lines.status _ _ (inl (subst (P c.in-Ok.lines.status) (sym c.as_bytes.ensures.value) c.in-Ok.ensures)) c.append_named.ensures.named,
    )
