use Rattle.std.proofs.Common.{refl}
use Rattle.kmipa_judge.proofs.checking.as_ever.audited.Goals as goal

pub returns-in-Ok : goal.returns-in-Ok
returns-in-Ok c = λ recorded. (c.in-Ok.verdict, refl, c.in-Ok.ensures recorded)

pub returns-in-Err : goal.returns-in-Err
returns-in-Err c = λ recorded. c.in-Err.ensures recorded
