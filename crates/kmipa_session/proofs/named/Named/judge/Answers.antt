use Rattle.std.proofs.Common.{◌≡◌, ◌∙◌, Some, ap}
use Rattle.kmipa_session.specs.Judgings.{judge_form}
use Rattle.kmipa_session.specs.Sealing.{own_length}
use Rattle.kmipa_session.proofs.JudgingLemmas.{told_as, told_in}
use Rattle.kmipa_session.proofs.named.Named.judge.Goals as goal

pub returns-clause-judges : goal.returns-clause-judges
returns-clause-judges g c =
    let run = c.judge_run-run in
    let judged = c.judged_files.result in
    let json = c.args.words.json in
    let form : c.judge_form-form.result ≡ judge_form json (own_length c.args.transcript.now.torn) = c.judge_form-form.ensures ∙ ap (judge_form json) c.own_length.ensures in
    let t = run.new.transcript in
    let d = Some run.new.declaration in
    let told = told_as (g.W.Watch.seconds c.args.watch) c.judge_form-form.result t d run.result judged c.judged_files.ensures.status c.judged_files.ensures.lines
    c.judged_files.ensures.witness c.judged_files.ensures.used run.ensures.told in
    told_in (g.W.Watch.seconds c.args.watch) c.judge_form-form.result (judge_form json (own_length c.args.transcript.now.torn)) t d judged.ran.status judged.ran.lines.items judged.witness.items judged.used.items
    form told
