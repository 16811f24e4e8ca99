use Rattle.std.proofs.Common.{arith}
use Rattle.kmipa_store.proofs.SoughtLemmas.{all_names}
use Rattle.kmipa_store.proofs.sought.are_same.Goals as goal

pub returns : goal.returns
returns c = λ t.
    all_names c.args.names.now c.args.others.now (omega (arith, c.if-names-others.false))
    (λ k a b z at there. c.names.invariant.same k a b (omega (arith, c.names-test.false)) at there)
