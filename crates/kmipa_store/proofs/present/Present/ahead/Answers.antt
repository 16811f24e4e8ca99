use Rattle.std.proofs.Common.{subst}
use Rattle.kmipa_attrs.specs.Filters.{filter_of}
use Rattle.kmipa_store.specs.Present.{Standing}
use Rattle.kmipa_store.specs.Queries.{Leaps, lasting}
use Rattle.kmipa_store.proofs.present.Present.ahead.Goals as goal

pub returns : goal.returns
returns c =
    subst (λ (x : Standing). Leaps (lasting (filter_of c.args.filter.now)) x.dated.objects c.args.from c.ahead.result) c.self.view_is
    (c.ahead.ensures c.self.inside.objects c.self.invariant.3)
