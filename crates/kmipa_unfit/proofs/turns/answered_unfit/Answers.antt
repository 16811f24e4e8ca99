use Rattle.std.proofs.Common.{List, map, sym, subst}
use Rattle.kmipa_msgs.specs.Messages.{request_of, response_of}
use Rattle.kmipa_record.specs.Witnesses.{birth_of, fill_of, turn_of}
use Rattle.kmipa_record.specs.declared.birth.Birth.{Birth}
use Rattle.kmipa_record.specs.declared.fill.Fill.{Fill}
use Rattle.kmipa_check.specs.Births.{AreBirthsWanted, SomeMisformed}
use Rattle.kmipa_check.specs.Fills.{FillFault}
use Rattle.kmipa_check.specs.Grants.{grants_of}
use Rattle.kmipa_unfit.specs.UnfitBirths.{IsFormlessBirth}
use Rattle.kmipa_unfit.proofs.AnswerLemmas.{birth_formless, fills_left}
use Rattle.kmipa_unfit.proofs.turns.answered_unfit.Goals as goal

pub fill_unfit-requires : goal.fill_unfit-requires
fill_unfit-requires c =
    let request = request_of c.args.request.now in
    let response = response_of c.args.response.now in
    let P : List Fill → Type 0 = λ fs. FillFault request response (map fill_of fs) c.args.kind in
    subst P (sym c.deref-in_default.ensures.value)
    (fills_left (grants_of c.args.grants.now) request response (turn_of c.args.turn.now) c.args.kind c.requires c.in_default.not-MomentForm c.in_default.not-OrderNotWanted c.in_default.not-OrderForm
    c.in_default.not-BirthNotWanted c.in_default.not-BirthForm c.in_default.not-AsideForm)

pub formless_birth-requires : goal.formless_birth-requires
formless_birth-requires c =
    let g = grants_of c.args.grants.now in
    let P : List Birth → Type 0 = λ bs. SomeMisformed g (map birth_of bs) in
    subst P (sym c.deref-in-BirthForm.ensures.value)
    (birth_formless g (request_of c.args.request.now) (response_of c.args.response.now) (turn_of c.args.turn.now) c.args.kind c.requires c.in-BirthForm.is).1

pub returns-in_ok-formless_birth-in-BirthForm-clause-tells : goal.returns-in_ok-formless_birth-in-BirthForm-clause-tells
returns-in_ok-formless_birth-in-BirthForm-clause-tells c =
    let g = grants_of c.args.grants.now in
    let request = request_of c.args.request.now in
    let response = response_of c.args.response.now in
    let wanted = (birth_formless g request response (turn_of c.args.turn.now) c.args.kind c.requires c.in-BirthForm.is).0 in
    let W : List Birth → Type 0 = λ bs. AreBirthsWanted request response (map birth_of bs) in
    let P : List Birth → Type 0 = λ bs. IsFormlessBirth g request response (map birth_of bs) c.in_ok-formless_birth-in-BirthForm.field-0 in
    (c.in-BirthForm.is, subst P c.deref-in-BirthForm.ensures.value (c.in_ok-formless_birth-in-BirthForm.ensures request response (subst W (sym c.deref-in-BirthForm.ensures.value) wanted)))
