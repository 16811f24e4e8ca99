use Rattle.std.proofs.lemmas.Result.{IfOk-weaker}
use Rattle.kmipa_session.proofs.ChainingLemmas.{next_kept}
use Rattle.kmipa_session.proofs.chaining.search.Goals as goal

pub returns-clause-joins : goal.returns-clause-joins
returns-clause-joins g c =
    IfOk-weaker c.keep_and_tell.result _ _ (λ done h yes.
    let judged = h yes in
    next_kept g.W.World.made _ _ _ c.args.segment.now.kept done.1 (c.search_next-status.ensures.goes_on judged.0).0 (c.search_next-status.ensures.kept judged.0) judged.1)
    c.keep_and_tell.ensures.kept
