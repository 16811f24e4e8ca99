use Rattle.std.proofs.Common.{map}
use Rattle.kmipa_attrs.specs.Sets.{name_of}
use Rattle.kmipa_store.proofs.TallyLemmas.{Lowering}
use Rattle.kmipa_store.proofs.tally.Tally.lower_all.Given as goal

abbrev pub invariant-loop-i : goal.invariant-loop-i
invariant-loop-i l = Lowering l.fn.self (map name_of l.names) l.i l.self
