use Rattle.kmipa_record.proofs.TranscriptLemmas.{none_come}
use Rattle.kmipa_record.proofs.recorded_marks.RecordedMarks.new.Goals as goal

pub returns-clause-come : goal.returns-clause-come
returns-clause-come g c = none_come _ c.new.ensures.given c.new.ensures.reported c.new-2.ensures
