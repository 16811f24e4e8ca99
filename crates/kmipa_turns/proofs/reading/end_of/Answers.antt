use Rattle.std.proofs.Common.{List, ℕ, Some, map, subst, sym, rules}
use Rattle.std.proofs.lemmas.Int.{to_z-of_z}
use mir.Val.{SFits}
use mir.Syntax.{w32}
use Rattle.kmipa_record.specs.Marks.{mark_of}
use Rattle.kmipa_check.proofs.ReadingLemmas.{none_ends, no_begin, end_of_call}
use Rattle.kmipa_turns.specs.Turning.{EndRead}
use Rattle.kmipa_turns.proofs.reading.end_of.Goals as goal

pub returns-in_default : goal.returns-in_default
returns-in_default c =
    let fits : SFits w32 c.args.number = search rules in
    none_ends c.args.marks.now c.args.ends.now _ c.args.number (to_z-of_z w32 c.args.number fits) c.in_default.ensures c.requires

pub returns-in_default-marks : goal.returns-in_default-marks
returns-in_default-marks c = λ end response there.
    absurd (no_begin c.args.marks.now c.args.ends.now c.in-Some.place c.index-marks-place.result c.in_default-marks.field-0 _ c.in-Some.ensures c.requires c.index-marks-place.is c.in_default-marks.is)

pub returns : goal.returns
returns c =
    let fits : SFits w32 c.args.number = search rules in
    let same = to_z-of_z w32 c.args.number fits in
    let P : List ℕ → Type 0 = λ response. EndRead (map mark_of c.args.marks.now) c.args.number (Some (c.in-Some.place, response)) in
    subst P (sym c.as_slice-response.ensures.value)
    (end_of_call c.args.marks.now c.args.ends.now c.in-Some.place c.index-marks-place.result c.in-End.end _ c.args.number same c.in-Some.ensures c.requires c.index-marks-place.is c.in-End.is)
