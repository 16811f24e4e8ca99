use Rattle.kmipa_record.proofs.TranscriptLawLemmas.{one_transcript_lem}
use Rattle.kmipa_record.proofs.laws.one_transcript.Goals as goal

pub returns : goal.returns
returns c = one_transcript_lem
