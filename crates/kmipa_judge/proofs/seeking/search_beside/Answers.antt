use Rattle.kmipa_record.specs.Declarations.{declaration_of}
use Rattle.kmipa_record.specs.Transcripts.{transcript_of}
use Rattle.kmipa_judge.proofs.FoundLemmas.{told_beside}
use Rattle.kmipa_judge.proofs.seeking.search_beside.Goals as goal

pub returns-in-Ok : goal.returns-in-Ok
returns-in-Ok g c = λ recorded.
    let run = c.tell_beside.result in
    told_beside (g.W.Watch.seconds c.args.watch.now) c.args.words.budget c.args.words.forced (transcript_of c.args.transcript.now) (declaration_of c.args.declaration.now) c.in-Ok.beside
    run.status run.lines.items run.witness.items (c.in-Ok.ensures recorded) (c.requires.inside recorded) c.tell_beside.ensures
