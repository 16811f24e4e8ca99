use Rattle.std.proofs.Common.{Ok, Some, subst, sym}
use Rattle.kmipa_record.specs.Declarations.{declaration_of}
use Rattle.kmipa_record.specs.Transcripts.{transcript_of}
use Rattle.kmipa_searches.specs.Deciding.{TellsDecision, TellsPlaceOf}
use Rattle.kmipa_searches.specs.declared.judged.Decision.{Decision}
use Rattle.kmipa_searches.specs.declared.judged.Decision.TheVariants as decision
use Rattle.kmipa_searches.proofs.DecidingLemmas.{births_have_steps, decided_have_steps, spent_have_steps, tolerant_have_steps}
use Rattle.kmipa_searches.proofs.stuck.deepest_place.Goals as goal

pub returns-in-Decided : goal.returns-in-Decided
returns-in-Decided c = λ given budget count recorded tells.
    let marks = transcript_of c.args.transcript.now in
    let P : Decision → Type 0 = λ s. TellsDecision marks given budget count (Ok s) in
    let Q : Decision → Type 0 = λ s. TellsPlaceOf marks (declaration_of c.args.declaration.now) (Some s) c.some_place.result in
    subst Q (sym c.in-Decided.is) (c.some_place.ensures recorded (decided_have_steps marks given budget count (subst P c.in-Decided.is tells)) (Some decision.Decided) tt)

pub returns-in-UsedUp : goal.returns-in-UsedUp
returns-in-UsedUp c = λ given budget count recorded tells.
    let marks = transcript_of c.args.transcript.now in
    let P : Decision → Type 0 = λ s. TellsDecision marks given budget count (Ok s) in
    let Q : Decision → Type 0 = λ s. TellsPlaceOf marks (declaration_of c.args.declaration.now) (Some s) c.some_place-in-UsedUp.result in
    let steps = c.in-UsedUp.field-0 in
    subst Q (sym c.in-UsedUp.is) (c.some_place-in-UsedUp.ensures recorded (spent_have_steps marks given budget count steps (subst P c.in-UsedUp.is tells)) (Some (decision.UsedUp steps)) tt)

pub returns-in-Tolerant : goal.returns-in-Tolerant
returns-in-Tolerant c = λ given budget count recorded tells.
    let marks = transcript_of c.args.transcript.now in
    let P : Decision → Type 0 = λ s. TellsDecision marks given budget count (Ok s) in
    let Q : Decision → Type 0 = λ s. TellsPlaceOf marks (declaration_of c.args.declaration.now) (Some s) c.some_place-in-Tolerant.result in
    let seconds = c.in-Tolerant.field-0 in
    subst Q (sym c.in-Tolerant.is) (c.some_place-in-Tolerant.ensures recorded (tolerant_have_steps marks given budget count seconds (subst P c.in-Tolerant.is tells)) (Some (decision.Tolerant seconds)) tt)

pub returns-in-Births : goal.returns-in-Births
returns-in-Births c = λ given budget count recorded tells.
    let marks = transcript_of c.args.transcript.now in
    let P : Decision → Type 0 = λ s. TellsDecision marks given budget count (Ok s) in
    let Q : Decision → Type 0 = λ s. TellsPlaceOf marks (declaration_of c.args.declaration.now) (Some s) c.some_place-in-Births.result in
    subst Q (sym c.in-Births.is) (c.some_place-in-Births.ensures recorded (births_have_steps marks given budget count (subst P c.in-Births.is tells)) (Some decision.Births) tt)
