use Rattle.std.proofs.Common.{ℕ, List}
use Rattle.kmipa_ttlv.specs.Input.{is_failed}
use Rattle.kmipa_ttlv.proofs.ReadLemmas.{whole_file}
use Rattle.kmipa_record.specs.Transcripts.{transcript_of}
use Rattle.kmipa_record.specs.Witnesses.{witness_of, IsWitness}
use Rattle.kmipa_segments.specs.Chains.{AreReadNext}
use Rattle.kmipa_segments.proofs.ChainLemmas.{unread_check}
use Rattle.kmipa_segments.proofs.next.check_next_inputs.Goals as goal

pub returns-in-Err-clause-checks : goal.returns-in-Err-clause-checks
returns-in-Err-clause-checks g c = λ t w tf wf.
    unread_check c.args.chain.now c.args.name.now t w (is_failed c.read_linked.new.transcript) (is_failed c.args.witness.now) c.in-Err.unjudged (c.in-Err.ensures.unread t tf)

pub returns-in-Ok-check_segment_on-clause-checks : goal.returns-in-Ok-check_segment_on-clause-checks
returns-in-Ok-check_segment_on-clause-checks g c = λ t w tf wf.
    let read = c.in-Ok.ensures.reads in
    let came = c.in-Ok-read_witness.ensures.found in
    let P : List ℕ → Type 0 = λ b. AreReadNext c.args.chain.now.links c.read_linked.new.links c.args.name.now b (transcript_of c.in-Ok.transcript) in
    let Q : List ℕ → Type 0 = λ b. IsWitness b (witness_of c.in-Ok-read_witness.witness) in
    record {
      read = whole_file t c.read_linked.new.transcript P read.1 tf read.0;
      witness = whole_file w c.read_witness.new.input Q came.1 wf came.0;
      verdict = c.in-Ok-check_segment_on.ensures.checks read.0.transcript.recorded;
      leads = c.in-Ok-check_segment_on.ensures.leads read.0.transcript.recorded;
    }
