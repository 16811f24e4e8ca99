use Rattle.std.proofs.Common.{List, ℕ}
use Rattle.kmipa_session.specs.Searches.{SearchesExplained}
use Rattle.kmipa_session.proofs.SessionLemmas.{both_behind_nothing}
use Rattle.kmipa_session.proofs.runs.search_explained.Goals as goal

pub returns-clause-told : goal.returns-clause-told
returns-clause-told g c =
    let run = c.explain_search_run-answered in
    let P : List ℕ → List ℕ → Type 0 = λ l m. SearchesExplained (g.W.Watch.seconds c.args.watch.now) c.args.words run.new.transcript run.new.declaration run.result.status l m in
    both_behind_nothing P c.new-lines.result.items run.new.out.lines.items c.new-made.result.items run.new.out.made.items c.new-lines.ensures.items
    c.new-made.ensures.items (record {
      prints = run.ensures.prints;
      accepts = run.ensures.accepts;
    })
