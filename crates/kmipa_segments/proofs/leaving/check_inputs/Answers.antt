use Rattle.kmipa_ttlv.specs.Input.{is_failed}
use Rattle.kmipa_record.specs.Transcripts.{transcript_of}
use Rattle.kmipa_check.proofs.AuditLemmas.{unjudged, fails}
use Rattle.kmipa_segments.proofs.LeavingLemmas.{checked_files}
use Rattle.kmipa_segments.proofs.leaving.check_inputs.Goals as goal

pub returns-in-Ok-check_segment-clause-checks : goal.returns-in-Ok-check_segment-clause-checks
returns-in-Ok-check_segment-clause-checks g c = λ t d w tf df wf.
    let are = c.in-Ok.ensures.reads t d w tf df wf in
    checked_files t d w c.in-Ok.records c.in-Ok-check_segment.checked c.args.since are
    (c.in-Ok-check_segment.ensures.checks are.transcript.recorded) (c.in-Ok-check_segment.ensures.leads are.transcript.recorded)

pub returns-in-Err-check_segment-clause-checks : goal.returns-in-Err-check_segment-clause-checks
returns-in-Err-check_segment-clause-checks g c = λ t d w tf df wf.
    let are = c.in-Ok.ensures.reads t d w tf df wf in
    unjudged t d w c.in-Ok.records c.in-Err-check_segment.fault are (c.in-Err-check_segment.ensures.checks are.transcript.recorded)

pub returns-in-Err-clause-checks : goal.returns-in-Err-clause-checks
returns-in-Err-clause-checks g c = λ t d w tf df wf.
    fails t d w (is_failed c.read_known_records.new.transcript) (is_failed c.read_known_records.new.declaration) (is_failed c.read_known_records.new.witness) c.in-Err.fault
    (c.in-Err.ensures.reads t d w tf df wf)

pub returns-in-Ok-check_segment-clause-known : goal.returns-in-Ok-check_segment-clause-known
returns-in-Ok-check_segment-clause-known g c = (transcript_of c.in-Ok.records.transcript, c.in-Ok.ensures.known)
