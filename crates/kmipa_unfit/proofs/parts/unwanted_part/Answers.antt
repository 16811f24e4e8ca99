use Rattle.std.proofs.Common.{rules, ℤ, pos, get_or, refl, sym, arith}
use mir.Val.{SFits}
use mir.Syntax.{w32}
use Rattle.std.proofs.lemmas.Int.{to_z-of_z}
use Rattle.std.proofs.lemmas.Option.{slice_get-get_or}
use Rattle.kmipa_msgs.specs.Messages.{request_of, response_of}
use Rattle.kmipa_unfit.specs.PartFinding.{IsWantedPart}
use Rattle.kmipa_unfit.proofs.BelowLemmas.{below_more}
use Rattle.kmipa_unfit.proofs.PartLemmas.{are_wanted}
use Rattle.kmipa_unfit.proofs.parts.unwanted_part.Goals as goal

pub returns-in-Some : goal.returns-in-Some
returns-in-Some c =
    let here : ℤ = get_or c.args.items.now c.parts.at (pos 0) in
    let there = slice_get-get_or c.args.items.now c.parts.at (pos 0) c.parts-test.true in
    let fits : SFits w32 here = search rules in
    record {
      place = c.parts.at;
      counted = refl;
      item = here;
      there = there;
      names = sym (to_z-of_z w32 here fits);
      before = λ earlier other below at. (c.parts.invariant earlier below other at).0;
      why = c.in-Some.ensures here there;
    }

pub parts-preserved : goal.parts-preserved
parts-preserved c =
    below_more (IsWantedPart c.args.part (request_of c.args.request.now) (response_of c.args.response.now) c.args.items.now) c.parts.at c.in_default.ensures c.parts.invariant

pub returns : goal.returns
returns c =
    absurd (c.requires (are_wanted c.args.part (request_of c.args.request.now) (response_of c.args.response.now) c.args.items.now c.parts.at (omega (arith, c.parts-test.false)) c.parts.invariant))
