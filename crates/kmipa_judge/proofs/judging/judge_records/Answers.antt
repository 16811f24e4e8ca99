use Rattle.kmipa_judge.proofs.judging.judge_records.Goals as goal

pub returns-in-Ok-clause-told : goal.returns-in-Ok-clause-told
returns-in-Ok-clause-told g c = λ recorded. c.tell_with_rules.ensures.told (g.W.Watch.seconds c.args.watch) recorded (c.in-Ok.ensures.told recorded) (c.in-Ok.ensures.fair recorded)
