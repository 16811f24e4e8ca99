use Rattle.std.proofs.Common.{subst}
use Rattle.kmipa_record.specs.Declarations.{declaration_of}
use Rattle.kmipa_record.specs.Transcripts.{transcript_of}
use Rattle.kmipa_orders.specs.Found.{FindsIn}
use Rattle.kmipa_orders.specs.declared.found.Found.{Found}
use Rattle.kmipa_orders.specs.declared.found.Found.TheVariants.{Yes, Refuted, Impossible}
use Rattle.kmipa_orders.proofs.AnswerLemmas.{in_time}
use Rattle.kmipa_orders.proofs.MomentLemmas.{raised, raised_over}
use Rattle.kmipa_search.proofs.by_moments.found_at_moments.Goals as goal

pub returns-in-Yes : goal.returns-in-Yes
returns-in-Yes c = λ seconds kept r k finds.
    let marks = transcript_of c.args.transcript.now in
    let declared = declaration_of c.args.declaration.now in
    let P : Found → Type 0 = λ x. FindsIn seconds marks declared kept x in
    raised marks declared c.args.budget kept (Yes c.in-Yes.witness c.in-Yes.steps) k (subst P c.in-Yes.is finds)

pub returns-in-GaveUp : goal.returns-in-GaveUp
returns-in-GaveUp c = λ seconds kept r k finds.
    let marks = transcript_of c.args.transcript.now in
    let declared = declaration_of c.args.declaration.now in
    let P : Found → Type 0 = λ x. FindsIn seconds marks declared kept x in
    in_time seconds marks declared c.args.budget c.gave_up.result (c.gave_up.ensures kept r k (subst P c.in-GaveUp.is finds))

pub returns-in-Refuted : goal.returns-in-Refuted
returns-in-Refuted c = λ seconds kept r k finds.
    let marks = transcript_of c.args.transcript.now in
    let declared = declaration_of c.args.declaration.now in
    let P : Found → Type 0 = λ x. FindsIn seconds marks declared kept x in
    raised marks declared c.args.budget kept (Refuted c.in-Refuted.steps c.in-Refuted.objects) k (subst P c.in-Refuted.is finds)

pub returns-in-Impossible : goal.returns-in-Impossible
returns-in-Impossible c = λ seconds kept r k finds.
    let marks = transcript_of c.args.transcript.now in
    let declared = declaration_of c.args.declaration.now in
    let P : Found → Type 0 = λ x. FindsIn seconds marks declared kept x in
    raised marks declared c.args.budget kept (Impossible c.in-Impossible.steps c.in-Impossible.call) k (subst P c.in-Impossible.is finds)

pub returns-in-OutOfTime : goal.returns-in-OutOfTime
returns-in-OutOfTime c = λ seconds kept r k finds.
    let marks = transcript_of c.args.transcript.now in
    let declared = declaration_of c.args.declaration.now in
    let P : Found → Type 0 = λ x. FindsIn seconds marks declared kept x in
    raised_over seconds marks declared c.args.budget kept c.in-OutOfTime.steps c.in-OutOfTime.after k (subst P c.in-OutOfTime.is finds)
