use Rattle.kmipa_check.proofs.AuditLemmas.{are_records, a_transcript, a_declaration}
use Rattle.kmipa_runs.proofs.known.read_known_records.Goals as goal

pub returns-in-Ok-read_witness-clause-reads : goal.returns-in-Ok-read_witness-clause-reads
returns-in-Ok-read_witness-clause-reads g c = λ t d w tf df wf.
    are_records c.read_transcript.new.input c.read_declaration.new.input c.read_witness.new.input t d w
    (record { transcript = c.in-Ok.transcript; declaration = c.in-Ok-read_declaration.declaration; witness = c.in-Ok-read_witness.witness })
    tf df wf c.in-Ok.ensures.found c.in-Ok-read_declaration.ensures.found c.in-Ok-read_witness.ensures.found

pub returns-in-Err-read_declaration-clause-reads : goal.returns-in-Err-read_declaration-clause-reads
returns-in-Err-read_declaration-clause-reads g c = λ t d w tf df wf.
    (a_transcript c.read_transcript.new.input t c.in-Ok.transcript tf c.in-Ok.ensures.found, c.in-Err-read_declaration.ensures.fault d df)

pub returns-in-Err-read_witness-clause-reads : goal.returns-in-Err-read_witness-clause-reads
returns-in-Err-read_witness-clause-reads g c = λ t d w tf df wf. (
  a_transcript c.read_transcript.new.input t c.in-Ok.transcript tf c.in-Ok.ensures.found,
  a_declaration c.read_declaration.new.input d c.in-Ok-read_declaration.declaration df c.in-Ok-read_declaration.ensures.found,
  c.in-Err-read_witness.ensures.fault w wf,
)
