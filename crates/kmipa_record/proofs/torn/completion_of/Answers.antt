use Rattle.kmipa_record.proofs.TornLemmas.{completes}
use Rattle.kmipa_record.proofs.torn.completion_of.Goals as goal

pub returns-in-Some-2 : goal.returns-in-Some-2
returns-in-Some-2 c =
    let torn = rw c.in-Some.is at c.in_ok-head.ensures in
    let close = rw c.in-Some-2.is at c.in_ok-close.ensures in
    completes c.args.file.now c.in-Some-2.close.items c.in-Some.head c.in-Some.torn torn close
