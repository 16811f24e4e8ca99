use Rattle.std.proofs.Common.{rules, FitsSigned, ℤ, List, w64, to_z, of_z, map, subst, arith}
use Rattle.std.proofs.lemmas.Int.{to_z-of_z}
use Rattle.std.proofs.lemmas.List.{length-map}
use Rattle.kmipa_attrs.specs.Filters.{filter_of}
use Rattle.kmipa_msgs.specs.Messages.{lent, located_of}
use Rattle.kmipa_record.specs.Entries.{EntryOf, entry_of}
use Rattle.kmipa_check.proofs.PlaceLemmas.{mapped_at}
use Rattle.kmipa_explain.specs.Ids.{HasIds}
use Rattle.kmipa_explain.specs.LeftOut.{IsLeftOut, TellsLeftOut, TellsLeftOuts}
use Rattle.kmipa_explain.proofs.ToldLemmas.{told_all, told_more, told_none}
use Rattle.kmipa_explain.proofs.left_out.left_out.Goals as goal

pub entries-init : goal.entries-init
entries-init c =
    let t = to_z w64 (of_z w64 c.args.t) in
    let q = filter_of c.args.filter.now in
    let ids = located_of c.args.located.now in
    told_none (λ place e o. TellsLeftOut t q ids e o) (λ place (e : EntryOf). IsLeftOut t q ids e → ⊥) (map entry_of c.args.entries.now) c.new-told.result.items c.new-told.ensures.items

pub entries-preserved : goal.entries-preserved
entries-preserved c =
    let t = to_z w64 (of_z w64 c.args.t) in
    let q = filter_of c.args.filter.now in
    let ids = located_of c.args.located.now in
    let entry = c.index-entries-place.result in
    let at = mapped_at entry_of c.args.entries.now c.entries.place entry c.entries-test.true c.index-entries-place.is in
    let P : List _ → Type 0 = λ l. HasIds (map lent l) c.in_ok-listed.listed in
    let has : HasIds ids c.in_ok-listed.listed = subst P c.deref.ensures.value c.in_ok-listed.ensures in
    told_more (λ place e o. TellsLeftOut t q ids e o) (λ place (e : EntryOf). IsLeftOut t q ids e → ⊥) (map entry_of c.args.entries.now) c.entries.place (entry_of entry)
    c.entries.told.items c.note.new.told.items at (c.in_ok-note.ensures ids has) c.entries.invariant

pub returns : goal.returns
returns c =
    let fits : FitsSigned w64 c.args.t = search rules in
    let t = to_z w64 (of_z w64 c.args.t) in
    let q = filter_of c.args.filter.now in
    let ids = located_of c.args.located.now in
    let P : ℤ → Type 0 = λ z. TellsLeftOuts z q ids (map entry_of c.args.entries.now) c.entries.told.items in
    subst P (to_z-of_z w64 c.args.t fits)
    (told_all (λ place e o. TellsLeftOut t q ids e o) (λ place (e : EntryOf). IsLeftOut t q ids e → ⊥) (map entry_of c.args.entries.now) c.entries.place c.entries.told.items
    (omega (arith, c.entries-test.false, length-map c.args.entries.now entry_of)) c.entries.invariant)
