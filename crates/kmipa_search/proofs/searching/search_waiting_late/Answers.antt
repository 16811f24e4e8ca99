use Rattle.std.proofs.Common.{IfSome, Option, subst}
use Rattle.kmipa_record.specs.Declarations.{declaration_of}
use Rattle.kmipa_record.specs.Transcripts.{transcript_of}
use Rattle.kmipa_orders.specs.Found.{Finds}
use Rattle.kmipa_orders.specs.declared.found.Found.{Found}
use Rattle.kmipa_orders.proofs.DescentLemmas.{all_recorded}
use Rattle.kmipa_search.proofs.searching.search_waiting_late.Goals as goal

pub waiting_steps-requires-clause-each : goal.waiting_steps-requires-clause-each
waiting_steps-requires-clause-each c = (transcript_of c.args.transcript.now, c.requires.each)

pub search_by_turns-requires-clause-recorded : goal.search_by_turns-requires-clause-recorded
search_by_turns-requires-clause-recorded c = all_recorded (transcript_of c.args.transcript.now) c.args.calls.now c.requires.each

pub returns-in-Some-2-clause-finds : goal.returns-in-Some-2-clause-finds
returns-in-Some-2-clause-finds c = λ r are.
    let marks = transcript_of c.args.transcript.now in
    let declared = declaration_of c.args.declaration.now in
    let P : Option Found → Type 0 = λ o. IfSome o (Finds marks declared c.args.budget) in
    subst P c.in-Some-2.is (c.in_ok-found.ensures.finds marks declared r are)

pub returns-in-None-clause-finds : goal.returns-in-None-clause-finds
returns-in-None-clause-finds c = λ r are. c.search_by_turns.ensures.finds r
