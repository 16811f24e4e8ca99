use Rattle.std.proofs.Common.{◌∙◌, map, sym, arith}
use Rattle.std.proofs.lemmas.List.{length-map}
use Rattle.kmipa_attrs.specs.Sets.{name_of}
use Rattle.kmipa_record.specs.Entries.{entry_of}
use Rattle.kmipa_check.proofs.PlaceLemmas.{mapped_at}
use Rattle.kmipa_explain.specs.Taken.{bears}
use Rattle.kmipa_explain.proofs.KeptLemmas.{sought_found, sought_more, sought_none}
use Rattle.kmipa_explain.proofs.taken.first_bearer.Goals as goal

pub entries-preserved : goal.entries-preserved
entries-preserved c =
    let entry = c.index-entries-place.result in
    sought_more (bears (map name_of c.args.names.now)) (map entry_of c.args.entries.now) 0 c.entries.place (entry_of entry)
    (mapped_at entry_of c.args.entries.now c.entries.place entry c.entries-test.true c.index-entries-place.is) (sym c.if-bears.false ∙ c.bears.ensures) c.entries.invariant

pub returns-then-bears : goal.returns-then-bears
returns-then-bears c =
    let entry = c.index-entries-place.result in
    sym (sought_found (bears (map name_of c.args.names.now)) (map entry_of c.args.entries.now) 0 c.entries.place (entry_of entry)
    (mapped_at entry_of c.args.entries.now c.entries.place entry c.entries-test.true c.index-entries-place.is) (sym c.if-bears.true ∙ c.bears.ensures) c.entries.invariant)

pub returns : goal.returns
returns c =
    sym (sought_none (bears (map name_of c.args.names.now)) (map entry_of c.args.entries.now) 0 c.entries.place
    (omega (arith, c.entries-test.false, length-map c.args.entries.now entry_of)) c.entries.invariant)
