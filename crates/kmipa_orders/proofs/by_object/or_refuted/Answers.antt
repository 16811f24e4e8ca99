use Rattle.std.proofs.Common.{subst}
use Rattle.std.specs.Prelude.{Result}
use Rattle.kmipa_record.specs.Declarations.{declaration_of}
use Rattle.kmipa_check.specs.declared.fault.CheckFault.{CheckFault}
use Rattle.kmipa_orders.specs.Found.{SearchesIn}
use Rattle.kmipa_orders.specs.declared.found.Found.{Found}
use Rattle.kmipa_orders.proofs.by_object.or_refuted.Goals as goal

pub returns-in-Ok : goal.returns-in-Ok
returns-in-Ok c = λ seconds marks budget r are tells.
    let P : Result Found CheckFault → Type 0 = λ x. SearchesIn seconds marks (declaration_of c.args.declaration.now) budget x in
    c.found_or_refuted.ensures seconds marks budget r are (subst P c.in-Ok.is tells)
