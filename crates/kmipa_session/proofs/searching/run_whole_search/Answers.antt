use Rattle.kmipa_session.specs.Printing.{voice_of}
use Rattle.kmipa_session.specs.Sessions.{HasSearched}
use Rattle.kmipa_session.proofs.SessionLemmas.{told_in}
use Rattle.kmipa_session.proofs.searching.run_whole_search.Goals as goal

pub returns : goal.returns
returns g c =
    let made = g.W.World.made in
    let lacked = g.W.World.lacked in
    told_in made lacked (voice_of c.args.form) c.voice_of.result
    (HasSearched made lacked c.args.words.files c.args.words.torn c.args.form c.args.words.search c.args.words.expected) c.search_files-done.result
    c.tell_done.result.did _ _ _ _ c.voice_of.ensures c.search_files-done.ensures c.tell_done.ensures
