use Rattle.std.proofs.Common.{◌≡◌, Bool, List, ℕ, Some, map, subst, sym, arith}
use Rattle.std.proofs.lemmas.List.{length-map}
use Rattle.kmipa_record.specs.Entries.{EntryOf, entry_of}
use Rattle.kmipa_check.proofs.PlaceLemmas.{mapped_at}
use Rattle.kmipa_segments.specs.Comparing.{HasNone, HasObject, IsLive, IsToldOrNot}
use Rattle.kmipa_segments.proofs.CompareLemmas.{each_all, each_more}
use Rattle.kmipa_segments.proofs.comparing.first_untold.Goals as goal

pub returns-then-is_untold : goal.returns-then-is_untold
returns-then-is_untold c =
    let entry = c.index-left-place.result in
    let T : Bool → Type 0 = λ b. IsToldOrNot (entry_of entry) (map entry_of c.args.told.now) b in
    let told = subst T c.if-is_untold.true c.is_untold.ensures in
    let N : List ℕ → Type 0 = λ id. HasNone (map entry_of c.args.told.now) id in
    record {
      place = c.left.place;
      object = entry_of entry;
      there = mapped_at entry_of c.args.left.now c.left.place entry c.left-test.true c.index-left-place.is;
      its = sym c.in_ok-copy_of.ensures;
      alive = told.0;
      nowhere = subst N (sym c.in_ok-copy_of.ensures) told.1;
    }

pub left-preserved : goal.left-preserved
left-preserved c =
    let entry = c.index-left-place.result in
    let T : Bool → Type 0 = λ b. IsToldOrNot (entry_of entry) (map entry_of c.args.told.now) b in
    each_more (λ (e : EntryOf). IsLive e → HasObject (map entry_of c.args.told.now) e.id) (map entry_of c.args.left.now) c.left.place (entry_of entry)
    (mapped_at entry_of c.args.left.now c.left.place entry c.left-test.true c.index-left-place.is)
    (subst T c.if-is_untold.false c.is_untold.ensures) c.left.invariant

pub returns : goal.returns
returns c =
    each_all (λ (e : EntryOf). IsLive e → HasObject (map entry_of c.args.told.now) e.id) (map entry_of c.args.left.now) c.left.place
    (omega (arith, c.left-test.false, length-map c.args.left.now entry_of)) c.left.invariant
