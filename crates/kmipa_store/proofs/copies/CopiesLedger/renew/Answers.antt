use Rattle.kmipa_store.specs.Ledger.{held}
use Rattle.kmipa_store.specs.States.{state_of_copies}
use Rattle.kmipa_store.proofs.ChangeLemmas.{renewed_as}
use Rattle.kmipa_store.proofs.copies.CopiesLedger.renew.Goals as goal

pub returns-clause-meaning : goal.returns-clause-meaning
returns-clause-meaning c = renewed_as (state_of_copies c.args.self.now) c.args.place (held c.args.object) c.exchange.new.self c.requires.same c.exchange.ensures.after
