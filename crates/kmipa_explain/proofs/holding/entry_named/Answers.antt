use Rattle.std.proofs.Common.{◌∙◌, bytes_eq, map, sym, arith}
use Rattle.std.proofs.lemmas.List.{length-map}
use Rattle.kmipa_record.specs.Entries.{EntryOf, entry_of}
use Rattle.kmipa_check.proofs.PlaceLemmas.{mapped_at}
use Rattle.kmipa_explain.proofs.KeptLemmas.{sought_found, sought_more, sought_none}
use Rattle.kmipa_explain.proofs.holding.entry_named.Goals as goal

pub entries-preserved : goal.entries-preserved
entries-preserved c =
    let entry = c.index-entries-place.result in
    sought_more (λ (e : EntryOf). bytes_eq c.args.id.now e.id) (map entry_of c.args.entries.now) 0 c.entries.place (entry_of entry)
    (mapped_at entry_of c.args.entries.now c.entries.place entry c.entries-test.true c.index-entries-place.is) (sym c.if-is_named.false ∙ c.is_named.ensures) c.entries.invariant

pub returns-then-is_named : goal.returns-then-is_named
returns-then-is_named c =
    let entry = c.index-entries-place.result in
    sym (sought_found (λ (e : EntryOf). bytes_eq c.args.id.now e.id) (map entry_of c.args.entries.now) 0 c.entries.place (entry_of entry)
    (mapped_at entry_of c.args.entries.now c.entries.place entry c.entries-test.true c.index-entries-place.is) (sym c.if-is_named.true ∙ c.is_named.ensures) c.entries.invariant)

pub returns : goal.returns
returns c =
    sym (sought_none (λ (e : EntryOf). bytes_eq c.args.id.now e.id) (map entry_of c.args.entries.now) 0 c.entries.place
    (omega (arith, c.entries-test.false, length-map c.args.entries.now entry_of)) c.entries.invariant)
