use Rattle.std.specs.Io.{appended_bytes}
use Rattle.kmipa_session.proofs.SessionLemmas.{shown_of}
use Rattle.kmipa_session.proofs.named.Named.show.Goals as goal

pub returns-clause-shows : goal.returns-clause-shows
returns-clause-shows g c = shown_of c.args.options c.show_run.new.input c.show_run.result.1 _ c.show_run.ensures.prints c.show_run.ensures.shows
