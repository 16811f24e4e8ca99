use Rattle.std.proofs.Common.{subst}
use Rattle.kmipa_record.specs.Declarations.{declaration_of}
use Rattle.kmipa_orders.specs.Found.{FindsIn}
use Rattle.kmipa_orders.specs.declared.found.Found.{Found}
use Rattle.kmipa_orders.proofs.AnswerLemmas.{in_time}
use Rattle.kmipa_orders.proofs.by_object.found_or_refuted.Goals as goal

pub returns-in-Yes : goal.returns-in-Yes
returns-in-Yes c = λ seconds marks budget r are finds.
    let P : Found → Type 0 = λ x. FindsIn seconds marks (declaration_of c.args.declaration.now) budget x in
    subst P c.in-Yes.is finds

pub returns-in-GaveUp : goal.returns-in-GaveUp
returns-in-GaveUp c = λ seconds marks budget r are finds.
    let P : Found → Type 0 = λ x. FindsIn seconds marks (declaration_of c.args.declaration.now) budget x in
    in_time seconds marks (declaration_of c.args.declaration.now) budget c.gave_up.result (c.gave_up.ensures marks budget r are (subst P c.in-GaveUp.is finds))

pub returns-in-Refuted : goal.returns-in-Refuted
returns-in-Refuted c = λ seconds marks budget r are finds.
    let P : Found → Type 0 = λ x. FindsIn seconds marks (declaration_of c.args.declaration.now) budget x in
    subst P c.in-Refuted.is finds

pub returns-in-Impossible : goal.returns-in-Impossible
returns-in-Impossible c = λ seconds marks budget r are finds.
    let P : Found → Type 0 = λ x. FindsIn seconds marks (declaration_of c.args.declaration.now) budget x in
    subst P c.in-Impossible.is finds

pub returns-in-OutOfTime : goal.returns-in-OutOfTime
returns-in-OutOfTime c = λ seconds marks budget r are finds.
    let P : Found → Type 0 = λ x. FindsIn seconds marks (declaration_of c.args.declaration.now) budget x in
    subst P c.in-OutOfTime.is finds
