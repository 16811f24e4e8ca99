use Rattle.std.proofs.Common.{map, sym, subst}
use Rattle.kmipa_msgs.specs.Messages.{RequestOf, request_of, response_of}
use Rattle.kmipa_record.specs.Witnesses.{birth_of}
use Rattle.kmipa_check.specs.Births.{IsBorn}
use Rattle.kmipa_check.specs.Grants.{grants_of}
use Rattle.kmipa_check.proofs.BornLemmas.{born_of}
use Rattle.kmipa_check.proofs.births.born_in.Goals as goal

pub returns-in-Ok : goal.returns-in-Ok
returns-in-Ok c =
    let g = grants_of c.args.grants.now in
    let request = request_of c.args.request.now in
    let response = response_of c.args.response.now in
    let births = map birth_of c.args.births.now in
    let P : RequestOf → Type 0 = λ r. IsBorn g request response births r in
    subst P (sym c.in_ok-completed-in-Ok.ensures) (born_of g request response births (request_of c.in-Ok.full) c.if-not-are_births_wanted.ensures.decided c.in-Ok.ensures)
