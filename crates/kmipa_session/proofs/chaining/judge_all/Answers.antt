use Rattle.std.proofs.Common.{ap, length}
use Rattle.kmipa_session.proofs.ChainingLemmas.{as_counted}
use Rattle.kmipa_session.proofs.chaining.judge_all.Goals as goal

pub returns-in-Done : goal.returns-in-Done
returns-in-Done g c =
    as_counted c.end_all.result c.args.chain.now _ (length c.deref.result.now) (length c.args.folder.now.segments.items) (ap length c.deref.ensures.value) (c.in_ok-status.ensures.joins c.in-Done.is)
