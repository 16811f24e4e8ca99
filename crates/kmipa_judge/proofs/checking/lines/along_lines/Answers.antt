use Rattle.kmipa_judge.proofs.checking.lines.along_lines.Goals as goal

pub returns-in-Ok : goal.returns-in-Ok
returns-in-Ok c = c.in-Ok.ensures c.requires.recorded
