use Rattle.std.proofs.Common.{Option, Some, sym, subst}
use Rattle.kmipa_record.specs.declared.torn.Torn.{Torn}
use Rattle.kmipa_jobs.specs.declared.status.Status.{Status}
use Rattle.kmipa_session.specs.Sealing.{KnowsTold}
use Rattle.kmipa_session.proofs.SealingLemmas.{torn_told}
use Rattle.kmipa_session.proofs.ran.told_of.Goals as goal

pub returns-in-Some-clause-known : goal.returns-in-Some-clause-known
returns-in-Some-clause-known c = λ bytes known.
    let ran = c.args.ran in
    let told = c.ran_without_close in
    let P : Option Torn → Type 0 = λ t. KnowsTold t bytes told.result.status told.result.head in
    let Q : Status → Type 0 = λ s. KnowsTold (Some c.in-Some.field-0) bytes s told.result.head in
    subst P (sym c.in-Some.is) (subst Q (sym told.ensures.status) (torn_told bytes ran.status c.in-Some.field-0 ran.head told.result.head told.ensures.head known))
