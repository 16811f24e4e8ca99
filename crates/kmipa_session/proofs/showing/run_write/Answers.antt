use Rattle.kmipa_session.specs.Sessions.{HasWritten}
use Rattle.kmipa_session.specs.declared.voice.Voice.TheVariants.{Lines}
use Rattle.kmipa_session.proofs.SessionLemmas.{told_what}
use Rattle.kmipa_session.proofs.showing.run_write.Goals as goal

pub returns : goal.returns
returns g c =
    let made = g.W.World.made in
    let lacked = g.W.World.lacked in
    told_what made lacked Lines (HasWritten made lacked c.args.hex.now c.args.made.now) c.write_file-done.result c.tell_done.result.did _ _ _ _
    c.write_file-done.ensures c.tell_done.ensures
