use Rattle.std.proofs.Common.{map}
use Rattle.kmipa_attrs.specs.Sets.{name_of}
use Rattle.kmipa_store.proofs.NameLemmas.{Listing}
use Rattle.kmipa_store.proofs.names.Names.note.Given as goal

abbrev pub invariant-loop-slot : goal.invariant-loop-slot
invariant-loop-slot l = Listing l.fn.self l.place (map name_of l.names) l.slot l.self
