use Rattle.kmipa_record.specs.Declarations.{declaration_of}
use Rattle.kmipa_record.specs.Transcripts.{transcript_of}
use Rattle.kmipa_orders.specs.declared.found.Found.TheVariants.{GaveUp}
use Rattle.kmipa_orders.proofs.MomentLemmas.{answered, raised}
use Rattle.kmipa_search.proofs.by_moments.gave_up.Goals as goal

pub returns-then-grants_nothing : goal.returns-then-grants_nothing
returns-then-grants_nothing c = λ kept r k finds.
    raised (transcript_of c.args.transcript.now) (declaration_of c.args.declaration.now) c.args.budget kept (GaveUp c.args.steps) k finds

pub returns-else-grants_nothing : goal.returns-else-grants_nothing
returns-else-grants_nothing c = λ kept r k finds.
    let marks = transcript_of c.args.transcript.now in
    let declared = declaration_of c.args.declaration.now in
    answered marks declared c.args.budget c.search_at_moments.result
    (c.search_at_moments.ensures.finds r (raised marks declared c.args.budget kept (GaveUp c.args.steps) k finds)) c.search_at_moments.ensures.memory
