use Rattle.std.proofs.Common.{IfSome, Option, map, subst}
use Rattle.std.specs.String.{string_bytes}
use Rattle.kmipa_record.specs.Declarations.{declaration_of}
use Rattle.kmipa_check.specs.Calls.{call_of}
use Rattle.kmipa_check.specs.Grants.{GrantsNothing, grants_declared}
use Rattle.kmipa_orders.specs.ByObject.{RefutesCalls}
use Rattle.kmipa_orders.specs.declared.by_object.Refuting.{Refuting}
use Rattle.kmipa_orders.proofs.RefutedLemmas.{finds_refuted}
use Rattle.kmipa_orders.proofs.by_object.gave_up.Goals as goal

pub returns : goal.returns
returns c = λ marks budget r are f.
    let declared = declaration_of c.args.declaration.now in
    let calls = map call_of c.args.calls.now in
    let P : Option Refuting → Type 0 = λ o. IfSome o (λ x. RefutesCalls declared calls (map string_bytes x.objects.items)) in
    let N : Option Refuting → Type 0 = λ o. IfSome o (λ x. GrantsNothing (grants_declared declared)) in
    finds_refuted c.check_laws.ensures marks declared calls budget c.args.steps c.in-Some.refuting.objects (subst N c.in-Some.is c.in-Ok.ensures.nothing) r are f.0
    (subst P c.in-Some.is (c.in-Ok.ensures.refutes marks r are))
