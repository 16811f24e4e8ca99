use Rattle.std.proofs.Common.{List, ℕ}
use Rattle.kmipa_ttlv.specs.Input.{came_of, is_failed}
use Rattle.kmipa_runs.specs.Inputs.{Writes}
use Rattle.kmipa_session.proofs.SessionLemmas.{both_behind_nothing}
use Rattle.kmipa_session.proofs.runs.write_items.Goals as goal

pub returns : goal.returns
returns g c =
    let run = c.write_run-status in
    let P : List ℕ → List ℕ → Type 0 = λ l m. Writes (came_of run.new.input) (is_failed run.new.input) run.result l m in
    both_behind_nothing P c.new-lines.result.items run.new.out.items c.new-made.result.items run.new.made.items c.new-lines.ensures.items
    c.new-made.ensures.items run.ensures.writes
