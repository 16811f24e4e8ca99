use Rattle.kmipa_record.proofs.TranscriptLawLemmas.{no_fault_of_transcript_lem}
use Rattle.kmipa_record.proofs.laws.no_fault_of_transcript.Goals as goal

pub returns : goal.returns
returns c = no_fault_of_transcript_lem
