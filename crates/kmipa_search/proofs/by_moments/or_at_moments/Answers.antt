use Rattle.std.proofs.Common.{Result, subst}
use Rattle.kmipa_record.specs.Declarations.{declaration_of}
use Rattle.kmipa_record.specs.Transcripts.{transcript_of}
use Rattle.kmipa_check.specs.declared.fault.CheckFault.{CheckFault}
use Rattle.kmipa_orders.specs.Found.{SearchesIn}
use Rattle.kmipa_orders.specs.declared.found.Found.{Found}
use Rattle.kmipa_orders.proofs.MomentLemmas.{failed}
use Rattle.kmipa_search.proofs.by_moments.or_at_moments.Goals as goal

pub returns-in-Ok : goal.returns-in-Ok
returns-in-Ok c = λ seconds kept r k tells.
    let P : Result Found CheckFault → Type 0 = λ x. SearchesIn seconds (transcript_of c.args.transcript.now) (declaration_of c.args.declaration.now) kept x in
    c.found_at_moments.ensures seconds kept r k (subst P c.in-Ok.is tells)

pub returns-in-Err : goal.returns-in-Err
returns-in-Err c = λ seconds kept r k tells.
    let marks = transcript_of c.args.transcript.now in
    let declared = declaration_of c.args.declaration.now in
    let P : Result Found CheckFault → Type 0 = λ x. SearchesIn seconds marks declared kept x in
    failed marks declared c.args.budget kept c.in-Err.fault (subst P c.in-Err.is tells)
