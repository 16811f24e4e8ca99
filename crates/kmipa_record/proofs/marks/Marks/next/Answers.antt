use Rattle.std.proofs.Common.{refl}
use Rattle.kmipa_record.proofs.marks.Marks.next.Goals as goal

pub returns-in-Ok-Some-clause-given : goal.returns-in-Ok-Some-clause-given
returns-in-Ok-Some-clause-given g c = λ marks given. let p = rw c.in-Ok-Some.field-0-is at (c.in-Ok-Some.ensures.given marks given) in p.1

pub returns-in-Ok-Some-clause-placed : goal.returns-in-Ok-Some-clause-placed
returns-in-Ok-Some-clause-placed g c = λ marks given. let p = rw c.in-Ok-Some.field-0-is at (c.in-Ok-Some.ensures.given marks given) in p.0

pub returns-in-Ok-None-clause-given : goal.returns-in-Ok-None-clause-given
returns-in-Ok-None-clause-given g c = λ marks given. let p = rw c.in-Ok-None.field-0-is at (c.in-Ok-None.ensures.given marks given) in (p.0, refl, p.1, p.2)
