use Rattle.std.proofs.Common.{◌≡◌, ◌≤◌, ◌+◌, ◌-◌, ℕ, List, Some, string_bytes, bytes_eq, cond, map, sym, ap, ◌∙◌, subst, arith, length}
use Rattle.std.proofs.lemmas.List.{length-map}
use Rattle.kmipa_record.specs.Entries.{entry_of}
use Rattle.kmipa_record.specs.declared.entry.Entry.{Entry}
use Rattle.kmipa_check.proofs.PlaceLemmas.{mapped_at}
use Rattle.kmipa_explain.specs.Ids.{place_in}
use Rattle.kmipa_explain.proofs.IndexLemmas.{indexed_empty, indexed_before, indexed_all}
use Rattle.kmipa_explain.proofs.entry_index.EntryIndex.of.Goals as goal

pub entries-init : goal.entries-init
entries-init c = record { from = indexed_empty (map entry_of c.args.entries.now) (length c.args.entries.now) (record { places = c.new.result }) (omega (arith, length-map c.args.entries.now entry_of)) c.new.ensures.empty; within = omega arith }

pub entries-preserved : goal.entries-preserved
entries-preserved c =
    let entry = c.index-entries-place.result in
    let below : c.entries.place - 1 + 1 ≤ length c.args.entries.now = omega (arith, c.entries-test.true, c.entries.invariant.within) in
    let at = mapped_at entry_of c.args.entries.now (c.entries.place - 1) entry (omega (arith, below)) c.index-entries-place.is in
    let P : List ℕ → Type 0 = λ bs. (id : List ℕ) → place_in c.put.new.self id ≡ cond (bytes_eq bs id) (Some (c.entries.place - 1)) (place_in c.entries.index id) in
    record {
      from = indexed_before (map entry_of c.args.entries.now) c.entries.place (entry_of entry) c.entries.index c.put.new.self (omega (arith, c.entries-test.true)) at (subst P (c.as_str.ensures.value ∙ ap (λ (e : Entry). string_bytes e.id) (sym c.index-entries-place.is)) c.in_ok-put.ensures) c.entries.invariant.from;
      within = omega (arith, c.entries.invariant.within);
    }

pub returns : goal.returns
returns c = indexed_all (map entry_of c.args.entries.now) c.entries.place c.entries.index (omega (arith, c.entries-test.false)) c.entries.invariant.from
