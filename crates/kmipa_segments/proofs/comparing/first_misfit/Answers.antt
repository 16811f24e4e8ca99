use Rattle.std.specs.Prelude.{MatchOption, Option}
use Rattle.std.proofs.Common.{map, subst, arith}
use Rattle.std.proofs.lemmas.List.{length-map}
use Rattle.kmipa_record.specs.Entries.{entry_of}
use Rattle.kmipa_check.proofs.PlaceLemmas.{mapped_at}
use Rattle.kmipa_segments.specs.Comparing.{HasAlike, IsMisfit}
use Rattle.kmipa_segments.specs.declared.comparing.Difference.{Difference}
use Rattle.kmipa_segments.proofs.CompareLemmas.{each_all, each_more, misfit_differs}
use Rattle.kmipa_segments.proofs.comparing.first_misfit.Goals as goal

pub returns-in-Some : goal.returns-in-Some
returns-in-Some c =
    let entry = c.index-told-place.result in
    let left = map entry_of c.args.left.now in
    let M : Option Difference → Type 0 = λ d. MatchOption d (HasAlike left (entry_of entry)) (IsMisfit left (entry_of entry)) in
    misfit_differs (map entry_of c.args.left.now) (map entry_of c.args.told.now) c.told.place (entry_of entry) c.in-Some.difference
    (mapped_at entry_of c.args.told.now c.told.place entry c.told-test.true c.index-told-place.is) (subst M c.in-Some.is c.in_ok-difference.ensures)

pub told-preserved : goal.told-preserved
told-preserved c =
    let entry = c.index-told-place.result in
    let left = map entry_of c.args.left.now in
    let M : Option Difference → Type 0 = λ d. MatchOption d (HasAlike left (entry_of entry)) (IsMisfit left (entry_of entry)) in
    each_more (HasAlike (map entry_of c.args.left.now)) (map entry_of c.args.told.now) c.told.place (entry_of entry)
    (mapped_at entry_of c.args.told.now c.told.place entry c.told-test.true c.index-told-place.is)
    (subst M c.in_default.is c.in_ok-difference.ensures) c.told.invariant

pub returns : goal.returns
returns c =
    each_all (HasAlike (map entry_of c.args.left.now)) (map entry_of c.args.told.now) c.told.place
    (omega (arith, c.told-test.false, length-map c.args.told.now entry_of)) c.told.invariant
