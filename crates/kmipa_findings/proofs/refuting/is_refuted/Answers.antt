use Rattle.kmipa_findings.proofs.refuting.is_refuted.Goals as goal

pub returns-clause-told : goal.returns-clause-told
returns-clause-told g c = λ recorded. c.is_refuted_by.ensures (g.P.Pace.seconds c.args.pace.now) recorded (c.in_ok-sought.ensures.sought recorded)
