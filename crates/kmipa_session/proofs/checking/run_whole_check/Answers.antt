use Rattle.std.proofs.Common.{inl}
use Rattle.std.proofs.lemmas.Result.{IfOk-weaker}
use Rattle.kmipa_session.specs.Printing.{voice_of}
use Rattle.kmipa_session.specs.Sessions.{HasChecked}
use Rattle.kmipa_session.proofs.SessionLemmas.{told_in}
use Rattle.kmipa_session.proofs.checking.run_whole_check.Goals as goal

pub returns : goal.returns
returns g c =
    let made = g.W.World.made in
    let lacked = g.W.World.lacked in
    told_in made lacked (voice_of c.args.form) c.voice_of.result
    (HasChecked made lacked c.args.words.files c.args.words.torn c.args.words.seconds c.args.form c.args.words.expected) c.check_files-done.result c.tell_done.result.did _ _ _ _
    c.voice_of.ensures (IfOk-weaker c.check_files-done.result _ _ (λ it h. inl h) c.check_files-done.ensures) c.tell_done.ensures
