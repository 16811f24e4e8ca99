use Rattle.std.specs.Prelude.{◌⊎◌}
use Rattle.kmipa_session.specs.Sessions.{HasCheckedSegment, IsUntold}
use Rattle.kmipa_session.specs.declared.voice.Voice.TheVariants.{Lines}
use Rattle.kmipa_session.proofs.SessionLemmas.{told_what}
use Rattle.kmipa_session.proofs.checking.run_segment_check.Goals as goal

pub returns : goal.returns
returns g c =
    let made = g.W.World.made in
    let lacked = g.W.World.lacked in
    let segment = c.args.words.segment in
    told_what made lacked Lines (λ what said lines. HasCheckedSegment made lacked c.args.words.files c.args.words.torn c.args.words.seconds segment c.args.words.expected
    what said lines ⊎ IsUntold segment what said lines) c.check_segment-done.result c.tell_done.result.did _ _ _ _ c.check_segment-done.ensures
    c.tell_done.ensures
