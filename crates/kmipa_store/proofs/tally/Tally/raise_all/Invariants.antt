use Rattle.std.proofs.Common.{map}
use Rattle.kmipa_attrs.specs.Sets.{name_of}
use Rattle.kmipa_store.proofs.TallyLemmas.{Raising}
use Rattle.kmipa_store.proofs.tally.Tally.raise_all.Given as goal

abbrev pub invariant-loop-i : goal.invariant-loop-i
invariant-loop-i l = Raising l.fn.self (map name_of l.names) l.i l.self
