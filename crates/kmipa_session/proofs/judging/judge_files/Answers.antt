use Rattle.std.proofs.Common.{◌≡◌, ◌∙◌, inl, List, ℕ, Option, option_map, rules, subst}
use Rattle.kmipa_judge.specs.Runs.{JudgesFiles}
use Rattle.kmipa_record.specs.declared.torn.Torn.{Torn}
use Rattle.kmipa_session.specs.Judgings.{judge_form, judge_voice}
use Rattle.kmipa_session.specs.Sealing.{SaysSeals, own_length}
use Rattle.kmipa_session.specs.Sessions.{IsLeftAsAsked}
use Rattle.kmipa_session.specs.Worlds.{input_of, torn_of}
use Rattle.kmipa_session.specs.declared.voice.Voice.{Voice}
use Rattle.kmipa_session.proofs.JudgingLemmas.{opened_by}
use Rattle.kmipa_session.proofs.judging.judge_files.Goals as goal

pub returns : goal.returns
returns g c =
    let made = g.W.World.made in
    let run = c.judge_opened-judged in
    let judged = run.result.0 in
    let ran = judged.ran in
    let fd = run.result.1 in
    let said = c.say_seals-said.result in
    let files = c.args.words.files in
    let json = c.args.words.judging.json in
    let V : Voice → Type 0 = λ v. SaysSeals v c.args.words.expected c.torn.result ran.head ran.status ran.lines.items said.status said.lines.items in
    let S : Option Torn → Type 0 = λ t. SaysSeals (judge_voice json) c.args.words.expected t ran.head ran.status ran.lines.items said.status said.lines.items in
    let N : ℕ → Type 0 = λ n. JudgesFiles n (judge_form json (own_length (torn_of run.new.transcript))) (input_of run.new.transcript) (option_map input_of fd) ran.status ran.lines.items judged.witness.items judged.used.items in
    let Q : List ℕ → Type 0 = λ b. IsLeftAsAsked made files.witness b said.status c.in_ok-one.one in
    let U : List ℕ → Type 0 = λ b. IsLeftAsAsked made files.used b said.status c.in_ok-one.other in
    let same : c.deref-2.result.now ≡ judged.witness.items = search rules in
    let same_used : c.deref-3.result.now ≡ judged.used.items = search rules in
    inl (
      run.ensures.transcript ∙ c.in_ok-transcript.ensures.name,
      λ e. run.ensures.torn ∙ c.in_ok-transcript.ensures.opened e,
      opened_by files.declaration c.in_ok-declaration.declaration fd run.ensures.declaration c.in_ok-declaration.ensures.name,
      (
        judged.witness.items,
        judged.used.items,
        (ran, subst N c.watch_of-watch.ensures run.ensures.judges, run.ensures.known, subst S c.torn.ensures (subst V c.judge_voice-voice.ensures c.say_seals-said.ensures)),
        subst Q same c.in_ok-one.ensures.witness,
        subst U same_used c.in_ok-one.ensures.used,
      ),
    )
