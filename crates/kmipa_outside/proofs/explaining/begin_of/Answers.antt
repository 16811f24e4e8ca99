use Rattle.std.proofs.Common.{ℕ, ℤ, List, ◌<◌, map, arith, subst, sym, ap, rules}
use Rattle.std.proofs.lemmas.Int.{to_z-of_z}
use mir.Val.{SFits, to_z, of_z}
use mir.Syntax.{w32}
use Rattle.kmipa_record.specs.Marks.{mark_of}
use Rattle.kmipa_check.specs.Calls.{HasBegin}
use Rattle.kmipa_outside.proofs.MarkLemmas.{begin_more, begin_none}
use Rattle.kmipa_outside.proofs.explaining.begin_of.Goals as goal

pub marks-preserved : goal.marks-preserved
marks-preserved c =
    begin_more c.args.marks.now _ c.marks.place c.index-marks-place.result c.marks-test.true c.index-marks-place.is c.in_default.ensures c.marks.invariant

pub returns : goal.returns
returns c =
    let fits : SFits w32 c.args.number = search rules in
    let P : ℤ → Type 0 = λ z. (k : ℕ) (bytes : List ℕ) → k < c.marks.place → HasBegin (map mark_of c.args.marks.now) z k bytes → ⊥ in
    begin_none c.args.marks.now c.args.number c.marks.place (omega (arith, c.marks-test.false)) (subst P (to_z-of_z w32 c.args.number fits) c.marks.invariant)
