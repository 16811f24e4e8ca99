use Rattle.kmipa_session.specs.Judgings.{judge_voice}
use Rattle.kmipa_session.specs.Sessions.{HasJudged}
use Rattle.kmipa_session.proofs.SessionLemmas.{told_in}
use Rattle.kmipa_session.proofs.judging.run_judging.Goals as goal

pub returns : goal.returns
returns g c =
    let made = g.W.World.made in
    let lacked = g.W.World.lacked in
    told_in made lacked (judge_voice c.args.words.judging.json) c.judge_voice-voice.result
    (HasJudged made lacked c.args.words.files c.args.words.torn c.args.words.judging c.args.words.expected) c.judge_files-done.result
    c.tell_done.result.did _ _ _ _ c.judge_voice-voice.ensures c.judge_files-done.ensures c.tell_done.ensures
