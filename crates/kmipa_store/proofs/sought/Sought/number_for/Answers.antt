use Rattle.std.proofs.Common.{refl}
use Rattle.kmipa_store.proofs.SoughtLemmas.{sought_begun}
use Rattle.kmipa_store.proofs.sought.Sought.number_for.Goals as goal

pub returns-clause-knows : goal.returns-clause-knows
returns-clause-knows c = λ objects knows. sought_begun c.args.self.now (record c.args.self.now { wanted = c.push.new.self }) (record { filter = c.in-Ok.own; end = 0 }) objects c.in_default-push.ensures.items refl refl knows
