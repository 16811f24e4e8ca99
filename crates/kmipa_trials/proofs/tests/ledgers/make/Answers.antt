use Rattle.kmipa_store.proofs.CallLemmas.{makes_more, makes_there}
use Rattle.kmipa_trials.proofs.tests.ledgers.make.Goals as goal

pub returns : goal.returns
returns g c =
    let state = g.L.Ledger.state in
    record {
      there = makes_there (state c.args.ledger.now) c.args.rule c.new_secret.result c.expect.result (state c.new_secret.new.self) c.new_secret.ensures.meaning c.expect.ensures;
      marks = (makes_more (state c.args.ledger.now) c.args.rule c.new_secret.result (state c.new_secret.new.self) c.new_secret.ensures.meaning).2;
    }
