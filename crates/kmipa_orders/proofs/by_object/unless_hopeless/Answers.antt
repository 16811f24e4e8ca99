use Rattle.std.proofs.Common.{IfSome, Option, subst}
use Rattle.kmipa_record.specs.Declarations.{declaration_of}
use Rattle.kmipa_orders.specs.Found.{Finds}
use Rattle.kmipa_orders.specs.declared.found.Found.{Found}
use Rattle.kmipa_orders.proofs.by_object.unless_hopeless.Goals as goal

pub returns-in-Some : goal.returns-in-Some
returns-in-Some c = λ marks budget r are f.
    let P : Option Found → Type 0 = λ o. IfSome o (Finds marks (declaration_of c.args.declaration.now) budget) in
    subst P c.in-Some.is (c.in-Ok.ensures.finds marks (declaration_of c.args.declaration.now) budget f.0 r are)
