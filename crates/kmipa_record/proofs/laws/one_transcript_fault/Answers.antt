use Rattle.kmipa_record.proofs.TranscriptLawLemmas.{one_transcript_fault_lem}
use Rattle.kmipa_record.proofs.laws.one_transcript_fault.Goals as goal

pub returns : goal.returns
returns c = one_transcript_fault_lem
