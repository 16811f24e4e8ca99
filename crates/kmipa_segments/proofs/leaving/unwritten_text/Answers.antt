use Rattle.std.proofs.Common.{length, map, sym}
use Rattle.std.proofs.lemmas.List.{length-map}
use Rattle.kmipa_record.specs.Entries.{entry_of}
use Rattle.kmipa_segments.proofs.LeavingLemmas.{entry_told, none_told}
use Rattle.kmipa_segments.proofs.leaving.unwritten_text.Goals as goal

pub returns-in-Some : goal.returns-in-Some
returns-in-Some c =
    entry_told (map entry_of c.args.entries.now) (length c.args.entries.now) c.in_ok-place.field-0 c.in-Some.place c.entry_text.result c.in_ok-place.ensures.first c.in-Some.is c.entry_text.ensures

pub returns-in-None : goal.returns-in-None
returns-in-None c =
    none_told (map entry_of c.args.entries.now) (length c.args.entries.now) c.in_ok-place.field-0 c.unwritable_text.result c.in_ok-place.ensures.first c.in-None.is
    (sym (length-map c.args.entries.now entry_of)) c.unwritable_text.ensures
