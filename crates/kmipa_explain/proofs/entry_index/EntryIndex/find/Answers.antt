use Rattle.std.proofs.Common.{map, slice_get, ap, ◌∙◌}
use Rattle.std.specs.Prelude.{option_and_then}
use Rattle.kmipa_record.specs.Entries.{entry_of}
use Rattle.kmipa_explain.proofs.entry_index.EntryIndex.find.Goals as goal

pub returns-in-Some : goal.returns-in-Some
returns-in-Some c = c.entry_at.ensures ∙ ap (option_and_then (slice_get (map entry_of c.args.entries.now))) c.in-Some.ensures.value ∙ c.requires c.args.id.now

pub returns-in-None : goal.returns-in-None
returns-in-None c = ap (option_and_then (slice_get (map entry_of c.args.entries.now))) c.in-None.ensures.value ∙ c.requires c.args.id.now
