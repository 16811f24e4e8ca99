use Rattle.kmipa_judge.proofs.FoundLemmas.{found_when_done}
use Rattle.kmipa_judge.proofs.seeking.search_any_run.Goals as goal

pub returns-clause-accepts : goal.returns-clause-accepts
returns-clause-accepts g c =
    let run = c.search_both.result in
    found_when_done (g.W.Watch.seconds c.args.watch.now) c.args.words.budget c.args.words.forced c.search_both.new.transcript c.search_both.new.declaration run.status run.lines.items run.witness.items
    c.search_both.ensures.told
