use Rattle.std.proofs.Common.{◌≡◌, map, take}
use Rattle.std.specs.List.{filter}
use Rattle.kmipa_record.specs.Entries.{EntryOf, entry_of}
use Rattle.kmipa_msgs.specs.Messages.{lent}
use Rattle.kmipa_parts.specs.Parts.{is_among}
use Rattle.kmipa_orders.proofs.by_object.declaration_on.Given as goal

abbrev pub invariant-entries : goal.invariant-entries
invariant-entries l = map entry_of l.entries.items ≡ filter (λ (e : EntryOf). is_among (map lent l.fn.ids) e.id) (map entry_of (take l.entry-index l.entry-items))
