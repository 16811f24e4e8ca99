use Rattle.kmipa_turns.proofs.AsideLemmas.{may_places}
use Rattle.kmipa_turns.proofs.asides.may_set_aside.Goals as goal

pub returns : goal.returns
returns c = λ call counted.
    may_places c.args.count c.args.asides.now call c.are_places.result counted (λ e. let bad = c.if-is_whole.ensures.1 e in absurd cc) c.are_places.ensures
