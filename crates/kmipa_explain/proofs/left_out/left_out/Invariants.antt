use Rattle.std.proofs.Common.{◌-◌, length, map}
use Rattle.kmipa_attrs.specs.Filters.{filter_of}
use Rattle.kmipa_msgs.specs.Messages.{located_of}
use Rattle.kmipa_record.specs.Entries.{EntryOf, entry_of}
use Rattle.kmipa_explain.specs.LeftOut.{IsLeftOut, TellsLeftOut}
use Rattle.kmipa_explain.proofs.ToldLemmas.{ToldUpTo}
use Rattle.kmipa_explain.proofs.left_out.left_out.Given as goal

abbrev pub invariant-entries : goal.invariant-entries
invariant-entries l =
    let q = filter_of l.filter in
    let ids = located_of l.located in
    ToldUpTo (λ place e o. TellsLeftOut l.t q ids e o) (λ place (e : EntryOf). IsLeftOut l.t q ids e → ⊥) (map entry_of l.entries) l.place l.told.items

abbrev pub decreases-entries : goal.decreases-entries
decreases-entries l = length l.entries - l.place
