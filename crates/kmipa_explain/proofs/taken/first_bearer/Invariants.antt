use Rattle.std.proofs.Common.{◌-◌, length, map}
use Rattle.kmipa_attrs.specs.Sets.{name_of}
use Rattle.kmipa_record.specs.Entries.{entry_of}
use Rattle.kmipa_explain.specs.Taken.{bears}
use Rattle.kmipa_explain.proofs.KeptLemmas.{SoughtFrom}
use Rattle.kmipa_explain.proofs.taken.first_bearer.Given as goal

abbrev pub invariant-entries : goal.invariant-entries
invariant-entries l = SoughtFrom (bears (map name_of l.names)) (map entry_of l.entries) 0 l.place

abbrev pub decreases-entries : goal.decreases-entries
decreases-entries l = length l.entries - l.place
