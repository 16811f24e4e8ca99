use Rattle.std.proofs.Common.{List, ℕ}
use Rattle.kmipa_session.specs.Searches.{SearchesInSegment}
use Rattle.kmipa_session.proofs.SessionLemmas.{all_behind_nothing}
use Rattle.kmipa_session.proofs.runs.search_left.Goals as goal

pub returns-clause-told : goal.returns-clause-told
returns-clause-told g c =
    let run = c.search_segment_run-answered in
    let P : List ℕ → List ℕ → List ℕ → Type 0 = λ l m x.
    SearchesInSegment (g.W.Watch.seconds c.args.watch.now) c.args.words c.args.asked.leaves c.args.asked.since run.new.transcript run.new.declaration run.result.status l m x in
    all_behind_nothing P c.new-lines.result.items run.new.out.lines.items c.new-made.result.items run.new.out.made.items c.new-left.result.items run.new.out.left.items
    c.new-lines.ensures.items c.new-made.ensures.items c.new-left.ensures.items (record { prints = run.ensures.prints; leads = run.ensures.leads })
