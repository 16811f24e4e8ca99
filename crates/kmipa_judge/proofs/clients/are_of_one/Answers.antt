use Rattle.kmipa_judge.proofs.ClientLemmas.{of_some}
use Rattle.kmipa_judge.proofs.clients.are_of_one.Goals as goal

pub returns-in-Some : goal.returns-in-Some
returns-in-Some c = of_some c.args.marks.now c.in-Some.mark.now c.identity_of.result.now c.are_by.result c.in-Some.ensures.value c.identity_of.ensures c.are_by.ensures
