use Rattle.std.proofs.Common.{None}
use Rattle.kmipa_judge.proofs.StatusLemmas.{done_is_explained, no_is_convicted}
use Rattle.kmipa_judge.proofs.running.judge_alone_run.Goals as goal

pub returns-clause-explained : goal.returns-clause-explained
returns-clause-explained g c =
    let run = c.judge_one.result in
    done_is_explained (g.W.Watch.seconds c.args.watch) c.args.form c.judge_one.new.transcript None run.status run.lines.items run.witness.items run.declaration.items c.judge_one.ensures.told

pub returns-clause-convicted : goal.returns-clause-convicted
returns-clause-convicted g c =
    let run = c.judge_one.result in
    no_is_convicted (g.W.Watch.seconds c.args.watch) c.args.form c.judge_one.new.transcript None run.status run.lines.items run.witness.items run.declaration.items c.judge_one.ensures.told
