use Rattle.std.proofs.Common.{List, ℕ}
use Rattle.kmipa_beside.specs.Checks.{ChecksAny}
use Rattle.kmipa_session.proofs.SessionLemmas.{behind_nothing}
use Rattle.kmipa_session.proofs.runs.check_lines.Goals as goal

pub returns-clause-told : goal.returns-clause-told
returns-clause-told g c =
    let run = c.check_any_run-answered in
    let P : List ℕ → Type 0 = λ l. ChecksAny run.new.transcript run.new.declaration run.new.witness run.result.status l in
    behind_nothing P c.new-lines.result.items run.new.out.items c.new-lines.ensures.items run.ensures.told
