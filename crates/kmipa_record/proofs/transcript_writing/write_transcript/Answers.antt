use Rattle.std.proofs.Common.{List, map, subst}
use Rattle.kmipa_record.specs.Marks.{mark_of}
use Rattle.kmipa_record.specs.Transcripts.{IsPlainTranscript}
use Rattle.kmipa_record.specs.Writing.{Appends, IsWrittenTranscript, Unwritten}
use Rattle.kmipa_record.specs.declared.transcript.Mark.{Mark}
use Rattle.kmipa_record.proofs.WrittenTranscriptLemmas.{written, unwritten}
use Rattle.kmipa_record.proofs.transcript_writing.write_transcript.Goals as goal

pub returns-in-Ok-clause-written : goal.returns-in-Ok-clause-written
returns-in-Ok-clause-written c =
    let put = c.in-Ok.ensures.put in
    let old = c.args.out.now.items in let new = c.put_transcript.new.out.items in
    subst (λ (l : List Mark). Appends (IsWrittenTranscript (map mark_of l)) old new) c.deref.ensures.value (written (map mark_of c.deref.result.now) old new put.0 put.1)

pub returns-in-Err-clause-refused : goal.returns-in-Err-clause-refused
returns-in-Err-clause-refused c =
    subst (λ (l : List Mark). Unwritten (λ bytes. IsPlainTranscript bytes (map mark_of l)) (record { offset = 0; kind = c.in-Err.kind })) c.deref.ensures.value
    (unwritten (map mark_of c.deref.result.now) c.in-Err.kind c.in-Err.ensures.refused)
