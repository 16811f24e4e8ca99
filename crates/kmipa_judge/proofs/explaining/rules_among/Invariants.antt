use Rattle.std.proofs.Common.{All}
use Rattle.kmipa_record.specs.Marks.{AreRecorded}
use Rattle.kmipa_record.specs.Transcripts.{transcript_of}
use Rattle.kmipa_judge.specs.Rules.{IsExplainedWith}
use Rattle.kmipa_judge.proofs.explaining.rules_among.Given as goal

abbrev pub invariant-rules : goal.invariant-rules
invariant-rules g l = AreRecorded (transcript_of l.trial.transcript.now) → All (IsExplainedWith (transcript_of l.trial.transcript.now) l.trial.settings) l.explaining.items
