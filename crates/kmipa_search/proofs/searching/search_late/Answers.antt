use Rattle.std.proofs.Common.{IfSome, Option, subst}
use Rattle.kmipa_record.specs.Declarations.{declaration_of}
use Rattle.kmipa_orders.specs.Found.{Finds}
use Rattle.kmipa_orders.specs.declared.found.Found.{Found}
use Rattle.kmipa_search.proofs.searching.search_late.Goals as goal

pub returns-in-Some-clause-finds : goal.returns-in-Some-clause-finds
returns-in-Some-clause-finds c = λ marks r are plain.
    let P : Option Found → Type 0 = λ o. IfSome o (Finds marks (declaration_of c.args.declaration.now) c.args.budget) in
    subst P c.in-Some.is (c.in_ok-found.ensures.finds marks r are plain)

pub returns-in-None-clause-finds : goal.returns-in-None-clause-finds
returns-in-None-clause-finds c = λ marks r are plain. c.search_hopeless.ensures.finds marks (declaration_of c.args.declaration.now) r are
