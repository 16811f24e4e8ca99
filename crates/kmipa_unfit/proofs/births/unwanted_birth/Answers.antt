use Rattle.std.proofs.Common.{◌∙◌, ℤ, List, map, subst}
use Rattle.kmipa_msgs.specs.Messages.{request_of, response_of}
use Rattle.kmipa_record.specs.Witnesses.{birth_of}
use Rattle.kmipa_unfit.specs.PartFinding.{AreWantedParts}
use Rattle.kmipa_unfit.specs.declared.explanation.Part.TheVariants.{Birth}
use Rattle.kmipa_unfit.proofs.PartLemmas.{births_wanted}
use Rattle.kmipa_unfit.proofs.births.unwanted_birth.Goals as goal

pub unwanted_part-requires : goal.unwanted_part-requires
unwanted_part-requires c = λ wanted.
    let request = request_of c.args.request.now in
    let response = response_of c.args.response.now in
    let P : List ℤ → Type 0 = λ items. AreWantedParts Birth request response items in
    c.requires (births_wanted request response (map birth_of c.args.births.now) (subst P (c.deref.ensures.value ∙ c.in_ok-items.ensures) wanted))
