use Rattle.kmipa_judge.proofs.searched.look_as_ever.Goals as goal

pub returns-in-Ok : goal.returns-in-Ok
returns-in-Ok g c = λ recorded. c.come_of.ensures (g.W.Watch.seconds c.args.watch.now) recorded (c.in-Ok.ensures recorded).1
