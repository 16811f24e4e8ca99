use Rattle.kmipa_record.specs.Declarations.{declaration_of}
use Rattle.kmipa_record.specs.Transcripts.{transcript_of}
use Rattle.kmipa_judge.specs.Searches.{beside_so}
use Rattle.kmipa_judge.proofs.FoundLemmas.{told_outside}
use Rattle.kmipa_judge.proofs.seeking.search_outside.Goals as goal

pub returns-in-Outside-Refused : goal.returns-in-Outside-Refused
returns-in-Outside-Refused g c = λ recorded.
    let run = c.unread.result in
    let at = c.in-Outside-Refused in
    beside_so (told_outside (g.W.Watch.seconds c.args.watch.now) c.args.words.budget c.args.words.forced (transcript_of c.args.transcript.now) (declaration_of c.args.declaration.now) c.args.fault
    at.field-0-0 at.field-1-0 at.field-2-0 run.status run.lines.items run.witness.items at.is-1 at.is-0 (c.requires.outside recorded) c.unread.ensures.prints c.unread.ensures.nothing)

pub returns-in-Outside-default : goal.returns-in-Outside-default
returns-in-Outside-default g c = λ recorded. beside_so (c.search_beside.ensures recorded)
