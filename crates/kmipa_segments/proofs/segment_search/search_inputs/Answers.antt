use Rattle.kmipa_record.specs.Transcripts.{transcript_of}
use Rattle.kmipa_check.proofs.AuditLemmas.{a_transcript}
use Rattle.kmipa_segments.proofs.SegmentSearchLemmas.{segment_files, unsearched_segment}
use Rattle.kmipa_segments.proofs.segment_search.search_inputs.Goals as goal

pub returns-in-Ok-search_segment-clause-searches : goal.returns-in-Ok-search_segment-clause-searches
returns-in-Ok-search_segment-clause-searches g c = λ t d tf df.
    segment_files c.read_transcript.new.input c.read_declaration.new.input t d c.in-Ok.transcript c.in-Ok-read_declaration.declaration c.in-Ok-search_segment.segment c.args.asked.segment.since (g.W.Watch.seconds c.args.watch.now) c.args.asked.search.budget c.args.asked.search.forced
    tf df c.in-Ok.ensures.found c.in-Ok-read_declaration.ensures.found c.in-Ok-search_segment.ensures

pub returns-in-Err-read_declaration-clause-searches : goal.returns-in-Err-read_declaration-clause-searches
returns-in-Err-read_declaration-clause-searches g c = λ t d tf df.
    (a_transcript c.read_transcript.new.input t c.in-Ok.transcript tf c.in-Ok.ensures.found, c.in-Err-read_declaration.ensures.fault d df)

pub returns-in-Err-search_segment-clause-searches : goal.returns-in-Err-search_segment-clause-searches
returns-in-Err-search_segment-clause-searches g c = λ t d tf df.
    unsearched_segment c.read_transcript.new.input c.read_declaration.new.input t d c.in-Ok.transcript c.in-Ok-read_declaration.declaration c.in-Err-search_segment.fault c.args.asked.segment.since (g.W.Watch.seconds c.args.watch.now) c.args.asked.search.budget c.args.asked.search.forced
    tf df c.in-Ok.ensures.found c.in-Ok-read_declaration.ensures.found c.in-Err-search_segment.ensures

pub returns-in-Ok-search_segment-clause-known : goal.returns-in-Ok-search_segment-clause-known
returns-in-Ok-search_segment-clause-known g c = (transcript_of c.in-Ok.transcript, c.in-Ok.ensures.known)
