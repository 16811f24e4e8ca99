use Rattle.std.specs.contracts.io.impls.RefSliceU8Read.TheImpl.{ghosts}
use Rattle.std.proofs.Common.{◌∙◌, Some, ap, sym}
use Rattle.kmipa_ttlv.specs.Input.{came_of, is_ended}
use Rattle.kmipa_record.specs.Transcripts.{transcript_of, IsTranscript, TranscriptFault, IsTranscriptUpTo}
use Rattle.kmipa_runs.specs.Knowing.{Known}
use Rattle.kmipa_telling.proofs.HeldLemmas.{read_and, read_known}
use Rattle.kmipa_telling.proofs.SealLemmas.{known_read}
use Rattle.kmipa_telling.proofs.bytes.TranscriptKept.of.Goals as goal

pub returns-clause-reads : goal.returns-clause-reads
returns-clause-reads c =
    let read = c.read_transcript-read in
    read_known read.result ghosts.remaining c.args.bytes.now c.new-input.result read.new.input (λ b t. IsTranscript b (transcript_of t) × Known b t.head) TranscriptFault IsTranscriptUpTo c.ended.result
    c.new-input.ensures.none_came c.new-input.ensures.goes_on (ap (λ r. Some r.now) c.new-input.ensures.reader) read.ensures.over
    (sym c.failed.ensures ∙ c.if-failed.false) c.ended.ensures
    (read_and read.result (λ b t. IsTranscript b (transcript_of t)) (λ b t. Known b t.head) (came_of read.new.input) (is_ended read.new.input) read.ensures.found
    (known_read read.result (came_of read.new.input) read.ensures.known)) read.ensures.fault
