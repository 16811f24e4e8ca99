use Rattle.std.proofs.Common.{List, ℕ}
use Rattle.kmipa_session.specs.Checks.{ChecksInSegment}
use Rattle.kmipa_session.proofs.SessionLemmas.{both_behind_nothing}
use Rattle.kmipa_session.proofs.runs.check_left.Goals as goal

pub returns-clause-told : goal.returns-clause-told
returns-clause-told g c =
    let run = c.segment_run-answered in
    let P : List ℕ → List ℕ → Type 0 = λ l m. ChecksInSegment c.args.asked.leaves c.args.asked.since run.new.transcript run.new.declaration run.new.witness run.result.status l m in
    both_behind_nothing P c.new-lines.result.items run.new.out.lines.items c.new-left.result.items run.new.out.left.items c.new-lines.ensures.items
    c.new-left.ensures.items (record {
      prints = run.ensures.prints;
      leads = run.ensures.leads;
    })
