use Rattle.kmipa_passed.specs.Leaving.{aside_of, empty}
use Rattle.kmipa_places.specs.Counting.{unread_counts_of}
use Rattle.kmipa_trail.proofs.StepLemmas.{left_taken}
use Rattle.kmipa_trail.proofs.step.take_left.Goals as goal

pub returns-in-Ok-clause-taken : goal.returns-in-Ok-clause-taken
returns-in-Ok-clause-taken g c = λ rules.
    left_taken rules (g.L.Ledger.state c.args.ledger.now) (g.L.Ledger.state c.take_unread.new.ledger) (aside_of c.args.left.now) (unread_counts_of c.args.counts.now) c.counts_of.result
    c.in-Ok.ensures c.counts_of.ensures

pub returns-in-Ok-clause-marks : goal.returns-in-Ok-clause-marks
returns-in-Ok-clause-marks g c = (c.in-Ok.ensures empty).marks
