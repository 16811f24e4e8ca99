use Rattle.std.proofs.Common.{◌-◌, length, map}
use Rattle.kmipa_attrs.specs.Sets.{NameOf, name_of}
use Rattle.kmipa_attrs.proofs.NameLemmas.{has}
use Rattle.kmipa_explain.proofs.KeptLemmas.{SoughtFrom}
use Rattle.kmipa_explain.proofs.taken.first_shared.Given as goal

abbrev pub invariant-names : goal.invariant-names
invariant-names l = SoughtFrom (λ (n : NameOf). has (map name_of l.others) n) (map name_of l.names) 0 l.place

abbrev pub decreases-names : goal.decreases-names
decreases-names l = length l.names - l.place
