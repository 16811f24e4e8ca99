use Rattle.std.proofs.Common.{List, ℕ, inl, subst, sym}
use Rattle.kmipa_runs.specs.Lines.{PrintsFault}
use Rattle.kmipa_jobs.specs.declared.status.Status.{Status}
use Rattle.kmipa_segments.proofs.ChainingLemmas.{prints_named}
use Rattle.kmipa_segments.proofs.chaining.tell_fault.Goals as goal

pub returns-in-Ok-clause-tells : goal.returns-in-Ok-clause-tells
returns-in-Ok-clause-tells c =
    let P : Status → List ℕ → Type 0 = λ s l. PrintsFault c.args.fault.now s l in
    prints_named P c.args.name.now c.as_bytes.result.now c.in-Ok.lines.status _ _ (inl (subst (P c.in-Ok.lines.status) (sym c.as_bytes.ensures.value) c.in-Ok.ensures)) c.append_named.ensures.named
