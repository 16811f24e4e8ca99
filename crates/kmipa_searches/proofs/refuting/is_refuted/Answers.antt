use Rattle.std.proofs.Common.{ℕ, subst}
use Rattle.kmipa_record.specs.Declarations.{declaration_of}
use Rattle.kmipa_record.specs.Transcripts.{transcript_of}
use Rattle.kmipa_check.specs.Grants.{GrantsOf}
use Rattle.kmipa_orders.specs.Found.{FindsIn}
use Rattle.kmipa_orders.specs.declared.found.Found.{Found}
use Rattle.kmipa_searches.specs.Deciding.{TellsDecided}
use Rattle.kmipa_searches.proofs.DecidingLemmas.{decided_refutes, if_told}
use Rattle.kmipa_searches.proofs.refuting.is_refuted.Goals as goal

pub returns-in-GaveUp : goal.returns-in-GaveUp
returns-in-GaveUp c = λ seconds recorded finds.
    let marks = transcript_of c.args.transcript.now in
    let declared = declaration_of c.args.declaration.now in
    let F : Found → Type 0 = λ f. FindsIn seconds marks declared c.args.budget f in
    let G : GrantsOf → Type 0 = λ given. TellsDecided marks given c.args.budget c.in-GaveUp.count in
    if_told c.has_decided.result (λ told. decided_refutes marks declared seconds c.args.budget c.in-GaveUp.count recorded (subst F c.in-GaveUp.is finds) (subst G c.of.ensures told))
    (c.has_decided.ensures recorded)
