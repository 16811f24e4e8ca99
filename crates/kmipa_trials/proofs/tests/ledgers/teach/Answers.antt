use Rattle.kmipa_store.proofs.CallLemmas.{learns_length}
use Rattle.kmipa_trials.proofs.tests.ledgers.teach.Goals as goal

pub returns : goal.returns
returns g c =
    let state = g.L.Ledger.state in
    let s = learns_length (state c.args.ledger.now) c.args.secret.number c.args.bytes.now c.learn.result (state c.learn.new.self) c.learn.ensures.meaning in
    record { secrets = s.0; marks = s.2 }
