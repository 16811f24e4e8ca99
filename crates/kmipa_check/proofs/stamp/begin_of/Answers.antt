use Rattle.std.proofs.Common.{◌≡◌, map, arith, rules, below_more, ap, sym, ◌∙◌}
use Rattle.std.proofs.lemmas.Int.{to_z-of_z}
use Rattle.std.proofs.lemmas.List.{length-map}
use mir.Val.{SFits, of_z}
use mir.Syntax.{w32}
use Rattle.kmipa_record.specs.Marks.{mark_of}
use Rattle.kmipa_record.specs.declared.transcript.Mark
use Rattle.kmipa_check.proofs.PlaceLemmas.{at_within}
use Rattle.kmipa_check.proofs.StampLemmas.{begins_here}
use Rattle.kmipa_check.proofs.stamp.begin_of.Goals as goal
use Rattle.kmipa_check.proofs.stamp.begin_of.Goals.{in-Begin+else-begin-call, in_default}

pub marks-preserved : goal.marks-preserved
marks-preserved c =
    let fits : SFits w32 c.args.call = search rules in
    let same = to_z-of_z w32 c.args.call fits in
    below_more _ _ c.marks.invariant (λ message at.
    let mark = begins_here c.args.marks.now c.marks.mark-index c.mark-item.result _ message c.marks-test.true c.mark-item.is at in
    elim c.match-mark.branch [
      | in-Begin+else-begin-call w ↦
          (let equal : Mark.TheVariants.Begin w.in-Begin.begin ≡ Mark.TheVariants.Begin mark.0 = sym w.in-Begin.is ∙ mark.1 in
          let number : w.in-Begin.begin.call ≡ mark.0.call = cc in
          w.if-begin-call.false (ap (of_z w32) (number ∙ mark.2 ∙ same)))
      | in_default w ↦ w.in_default.not-Begin mark.0 mark.1
    ])

pub returns : goal.returns
returns c = λ place message at.
    let within = at_within (map mark_of c.args.marks.now) place _ at.there in
    let fits : SFits w32 c.args.call = search rules in
    let same = to_z-of_z w32 c.args.call fits in
    c.marks.invariant place (omega (arith, within, length-map c.args.marks.now mark_of, c.marks-test.false)) message (rw same at)
