use Rattle.std.proofs.Common.{IfSome, Option, map, subst, arith}
use Rattle.std.specs.String.{string_bytes}
use Rattle.kmipa_record.specs.Declarations.{declaration_of}
use Rattle.kmipa_check.specs.Calls.{call_of}
use Rattle.kmipa_check.specs.Grants.{GrantsNothing, grants_declared}
use Rattle.kmipa_orders.specs.ByObject.{RefutesCalls}
use Rattle.kmipa_orders.specs.declared.by_object.Refuting.{Refuting}
use Rattle.kmipa_orders.proofs.RefutedLemmas.{finds_refuted}
use Rattle.kmipa_orders.proofs.by_object.search_by_object.Goals as goal

pub returns-clause-finds : goal.returns-clause-finds
returns-clause-finds c = λ marks r are.
    let declared = declaration_of c.args.declaration.now in
    let calls = map call_of c.args.calls.now in
    let P : Option Refuting → Type 0 = λ o. IfSome o (λ x. RefutesCalls declared calls (map string_bytes x.objects.items)) in
    let N : Option Refuting → Type 0 = λ o. IfSome o (λ x. GrantsNothing (grants_declared declared)) in
    finds_refuted c.check_laws.ensures marks declared calls c.args.budget c.saturating_add-all.result c.in-Some.refuting.objects (subst N c.in-Some.is c.in-Ok.ensures.nothing) r are
    (omega (arith, c.if-all-budget.false)) (subst P c.in-Some.is (c.in-Ok.ensures.refutes marks r are))
