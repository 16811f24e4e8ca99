use Rattle.std.proofs.Common.{Err, subst, sym}
use Rattle.kmipa_ttlv.specs.Input.{is_failed}
use Rattle.kmipa_ttlv.proofs.ReadLemmas.{whole_file}
use Rattle.kmipa_record.specs.Transcripts.{IsTranscript, transcript_of}
use Rattle.kmipa_check.proofs.AuditLemmas.{a_transcript}
use Rattle.kmipa_searches.proofs.SearchLemmas.{unsearched_files}
use Rattle.kmipa_searches.specs.Deciding.{DecidesFiles}
use Rattle.kmipa_telling.specs.declared.meaning.FaultTold.{FaultTold}
use Rattle.kmipa_searches.proofs.GivingUpLemmas.{bare_declaration, bare_transcript, decided_files, stop_of, stop_told}
use Rattle.kmipa_searches.proofs.giving_up.judge_inputs.Goals as goal

pub fault_told-requires-clause-told : goal.fault_told-requires-clause-told
fault_told-requires-clause-told g c =
    stop_of (transcript_of c.in-Ok.transcript) c.in-Err-judge_records.fault (c.in-Err-judge_records.ensures c.in-Ok.ensures.found.0.recorded)

pub returns-in-Ok-judge_records-clause-decides : goal.returns-in-Ok-judge_records-clause-decides
returns-in-Ok-judge_records-clause-decides g c = λ t d tf df.
    decided_files c.read_transcript.new.input c.read_declaration.new.input t d c.in-Ok.transcript c.in-Ok-read_declaration.declaration c.in-Ok-judge_records.judged (g.W.Watch.seconds c.args.watch.now) c.args.asked.budget c.args.asked.forced
    tf df c.in-Ok.ensures.found c.in-Ok-read_declaration.ensures.found c.in-Ok-judge_records.ensures

pub returns-in-Err-clause-decides : goal.returns-in-Err-clause-decides
returns-in-Err-clause-decides g c = λ t d tf df.
    let ft = is_failed c.read_transcript.new.input in
    let fd = is_failed c.args.declaration.now in
    let P : FaultTold → Type 0 = λ told. DecidesFiles t d ft fd (g.W.Watch.seconds c.args.watch.now) c.args.asked.budget c.args.asked.forced (Err told) in
    subst P (sym c.bare.ensures) (bare_transcript t d ft fd (g.W.Watch.seconds c.args.watch.now) c.args.asked.budget c.args.asked.forced c.in-Err.fault (c.in-Err.ensures.fault t tf))

pub returns-in-Err-read_declaration-clause-decides : goal.returns-in-Err-read_declaration-clause-decides
returns-in-Err-read_declaration-clause-decides g c = λ t d tf df.
    let ft = is_failed c.read_transcript.new.input in
    let fd = is_failed c.read_declaration.new.input in
    let P : FaultTold → Type 0 = λ told. DecidesFiles t d ft fd (g.W.Watch.seconds c.args.watch.now) c.args.asked.budget c.args.asked.forced (Err told) in
    subst P (sym c.bare-in-Err-read_declaration.ensures) (bare_declaration t d ft fd (g.W.Watch.seconds c.args.watch.now) c.args.asked.budget c.args.asked.forced c.in-Err-read_declaration.fault
    (a_transcript c.read_transcript.new.input t c.in-Ok.transcript tf c.in-Ok.ensures.found, c.in-Err-read_declaration.ensures.fault d df))

pub returns-in-Err-judge_records-clause-decides : goal.returns-in-Err-judge_records-clause-decides
returns-in-Err-judge_records-clause-decides g c = λ t d tf df.
    let marks = transcript_of c.in-Ok.transcript in
    stop_told t d (is_failed c.read_transcript.new.input) (is_failed c.read_declaration.new.input) (g.W.Watch.seconds c.args.watch.now) c.args.asked.budget c.args.asked.forced marks c.in-Err-judge_records.fault c.fault_told.result
    (unsearched_files c.read_transcript.new.input c.read_declaration.new.input t d c.in-Ok.transcript c.in-Ok-read_declaration.declaration c.in-Err-judge_records.fault (g.W.Watch.seconds c.args.watch.now) c.args.asked.budget c.args.asked.forced
    tf df c.in-Ok.ensures.found c.in-Ok-read_declaration.ensures.found c.in-Err-judge_records.ensures)
    (whole_file t c.read_transcript.new.input (λ bytes. IsTranscript bytes marks) c.in-Ok.ensures.found.1 tf c.in-Ok.ensures.found.0)
    c.fault_told.ensures

pub returns-in-Ok-judge_records-clause-known : goal.returns-in-Ok-judge_records-clause-known
returns-in-Ok-judge_records-clause-known g c = (transcript_of c.in-Ok.transcript, c.in-Ok.ensures.known)
