use Rattle.std.proofs.Common.{◌≡◌, ◌≢◌, Some, slice_get, map, arith}
use Rattle.std.proofs.lemmas.List.{length-map}
use Rattle.kmipa_record.specs.Entries.{EntryOf, entry_of}
use Rattle.kmipa_check.proofs.PlaceLemmas.{mapped_at}
use Rattle.kmipa_segments.proofs.CompareLemmas.{each_all, each_more}
use Rattle.kmipa_segments.proofs.comparing.look_through.Goals as goal

pub returns-then-is_of : goal.returns-then-is_of
returns-then-is_of c =
    let entry = c.index-entries-place.result in
    (c.entries.place, mapped_at entry_of c.args.entries.now c.entries.place entry c.entries-test.true c.index-entries-place.is, c.is_of.ensures.0 c.if-is_of.true)

pub entries-preserved : goal.entries-preserved
entries-preserved c =
    let entry = c.index-entries-place.result in
    each_more (λ (e : EntryOf). e.id ≢ c.args.id.now) (map entry_of c.args.entries.now) c.entries.place (entry_of entry)
    (mapped_at entry_of c.args.entries.now c.entries.place entry c.entries-test.true c.index-entries-place.is)
    (λ same. let yes = c.is_of.ensures.1 same in let no = c.if-is_of.false in cc) c.entries.invariant

pub returns : goal.returns
returns c =
    each_all (λ (e : EntryOf). e.id ≢ c.args.id.now) (map entry_of c.args.entries.now) c.entries.place
    (omega (arith, c.entries-test.false, length-map c.args.entries.now entry_of)) c.entries.invariant
