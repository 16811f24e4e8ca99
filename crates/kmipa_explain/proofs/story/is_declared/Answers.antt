use Rattle.std.proofs.Common.{◌∙◌, map, refl, sym, bytes_eq, vec_len, arith, length, rules, ◌≡◌}
use Rattle.std.proofs.lemmas.List.{length-map}
use Rattle.kmipa_record.specs.Entries.{EntryOf, entry_of}
use Rattle.kmipa_check.proofs.PlaceLemmas.{mapped_at}
use Rattle.kmipa_explain.proofs.KeptLemmas.{any_found, any_more, any_none}
use Rattle.kmipa_explain.proofs.story.is_declared.Goals as goal

pub entries-init : goal.entries-init
entries-init c = refl

pub entries-preserved : goal.entries-preserved
entries-preserved c =
    let items = c.args.declaration.now.entries in
    let long : length items.items ≡ vec_len items = search rules in
    any_more (λ (e : EntryOf). bytes_eq e.id c.args.id.now) (map entry_of items.items) c.entries.place (entry_of c.index.result.now)
    (mapped_at entry_of items.items c.entries.place c.index.result.now (omega (arith, c.entries-test.true, c.len.ensures, long)) c.index.ensures)
    (sym c.if-has_id.false ∙ c.has_id.ensures) c.entries.invariant

pub returns-then-has_id : goal.returns-then-has_id
returns-then-has_id c =
    let items = c.args.declaration.now.entries in
    let long : length items.items ≡ vec_len items = search rules in
    any_found (λ (e : EntryOf). bytes_eq e.id c.args.id.now) (map entry_of items.items) c.entries.place (entry_of c.index.result.now)
    (mapped_at entry_of items.items c.entries.place c.index.result.now (omega (arith, c.entries-test.true, c.len.ensures, long)) c.index.ensures)
    (sym c.if-has_id.true ∙ c.has_id.ensures) c.entries.invariant

pub returns : goal.returns
returns c =
    let items = c.args.declaration.now.entries in
    let long : length items.items ≡ vec_len items = search rules in
    any_none (λ (e : EntryOf). bytes_eq e.id c.args.id.now) (map entry_of items.items) c.entries.place (omega (arith, c.entries-test.false, c.len.ensures, long, length-map items.items entry_of)) c.entries.invariant
