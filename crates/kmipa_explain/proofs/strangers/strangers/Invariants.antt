use Rattle.std.proofs.Common.{◌-◌, length, map}
use Rattle.kmipa_attrs.specs.Sets.{name_of}
use Rattle.kmipa_attrs.specs.declared.name.Name.{Name}
use Rattle.kmipa_explain.specs.Values.{is_stranger}
use Rattle.kmipa_explain.proofs.KeptLemmas.{KeptUpTo}
use Rattle.kmipa_explain.proofs.strangers.strangers.Given as goal

abbrev pub invariant-names : goal.invariant-names
invariant-names l = KeptUpTo (λ (n : Name). is_stranger (map name_of l.known) (name_of n)) name_of l.names 0 l.place (map name_of l.found.items)

abbrev pub decreases-names : goal.decreases-names
decreases-names l = length l.names - l.place
