use Rattle.std.proofs.Common.{◌∙◌, ℤ, List, map, subst}
use Rattle.kmipa_msgs.specs.Messages.{request_of, response_of}
use Rattle.kmipa_record.specs.Witnesses.{fill_of}
use Rattle.kmipa_unfit.specs.PartFinding.{AreWantedParts}
use Rattle.kmipa_unfit.specs.declared.explanation.Part.TheVariants.{Fill}
use Rattle.kmipa_unfit.proofs.AnswerLemmas.{fill_unwanted}
use Rattle.kmipa_unfit.proofs.PartLemmas.{fills_wanted}
use Rattle.kmipa_unfit.proofs.fills.fill_unfit.Goals as goal

pub unwanted_part-requires : goal.unwanted_part-requires
unwanted_part-requires c = λ wanted.
    let request = request_of c.args.request.now in
    let response = response_of c.args.response.now in
    let fills = map fill_of c.args.fills.now in
    let P : List ℤ → Type 0 = λ items. AreWantedParts Fill request response items in
    fill_unwanted request response fills c.args.kind c.requires c.in-FillNotWanted.is
    (fills_wanted request response fills (subst P (c.deref.ensures.value ∙ c.in_ok-items-in-FillNotWanted.ensures) wanted))
