use Rattle.std.proofs.Common.{List, ℕ}
use Rattle.kmipa_session.specs.Checks.{ChecksInJson}
use Rattle.kmipa_session.proofs.SessionLemmas.{behind_nothing}
use Rattle.kmipa_session.proofs.runs.check_object.Goals as goal

pub returns-clause-told : goal.returns-clause-told
returns-clause-told g c =
    let run = c.check_told_run-answered in
    let P : List ℕ → Type 0 = λ l. ChecksInJson c.args.torn run.new.transcript run.new.declaration run.new.witness run.result.status l in
    behind_nothing P c.new-lines.result.items run.new.out.items c.new-lines.ensures.items (record { tells = run.ensures.told; accepts = run.ensures.accepts })
