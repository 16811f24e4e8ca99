use Rattle.kmipa_passed.specs.Leaving.{aside_of, empty}
use Rattle.kmipa_unjudged.proofs.StepLemmas.{took_left}
use Rattle.kmipa_unjudged.proofs.step.take_left.Goals as goal

pub returns-in-Ok : goal.returns-in-Ok
returns-in-Ok g c = λ rules.
    took_left rules (g.L.Ledger.state c.args.ledger.now) (g.L.Ledger.state c.take_unread.new.ledger) (aside_of c.args.left.now) (c.in-Ok.ensures empty)
