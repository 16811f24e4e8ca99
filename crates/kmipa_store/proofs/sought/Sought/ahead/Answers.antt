use Rattle.kmipa_attrs.specs.Filters.{filter_of}
use Rattle.kmipa_store.specs.Queries.{lasting}
use Rattle.kmipa_store.proofs.SoughtLemmas.{leaps_by}
use Rattle.kmipa_store.proofs.sought.Sought.ahead.Goals as goal

pub returns-in-Some : goal.returns-in-Some
returns-in-Some c = λ objects knows.
    leaps_by c.args.self.now objects (lasting (filter_of c.args.filter.now)) c.in-Some.number c.args.from c.next_of.result c.in-Some.ensures c.next_of.ensures knows
