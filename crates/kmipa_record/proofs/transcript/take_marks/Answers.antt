use Rattle.kmipa_record.proofs.transcript.take_marks.Goals as goal

pub returns-clause-ended : goal.returns-clause-ended
returns-clause-ended g c = c.in_ok-take_mark.ensures.ended c.if-branch.false
