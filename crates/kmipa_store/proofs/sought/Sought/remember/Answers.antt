use Rattle.std.proofs.Common.{sym, subst}
use Rattle.kmipa_attrs.specs.Filters.{filter_of}
use Rattle.kmipa_store.specs.Queries.{AllLack, Lasting, lasting}
use Rattle.kmipa_store.proofs.SoughtLemmas.{number_within}
use Rattle.kmipa_store.proofs.sought.Sought.remember.Goals as goal

pub returns-in_default : goal.returns-in_default
returns-in_default c = λ objects long lack knows. c.in_default.ensures.knows objects knows

pub extend-requires : goal.extend-requires
extend-requires c = number_within c.number_for.new.self (lasting (filter_of c.args.filter.now)) c.in-Some.number c.in-Some.ensures.number

pub returns-then-from-to : goal.returns-then-from-to
returns-then-from-to c = λ objects long lack knows.
    let n = c.in-Some.ensures.number in
    c.extend.ensures n.0 objects n.1 long (subst (λ (a : Lasting). AllLack a objects c.args.from c.args.to) (sym n.2) lack) (c.in-Some.ensures.knows objects knows)

pub list-requires : goal.list-requires
list-requires c = number_within c.number_for.new.self (lasting (filter_of c.args.filter.now)) c.in-Some.number c.in-Some.ensures.number

pub returns : goal.returns
returns c = λ objects long lack knows. c.list.ensures objects (c.in-Some.ensures.knows objects knows)
