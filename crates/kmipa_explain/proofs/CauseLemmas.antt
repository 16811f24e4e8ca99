-- What the reasons of items rest on.
use Rattle.std.proofs.Common.{◌≢◌, ℕ, List, Option, option_map, Result, Ok, Err, refl}
use Rattle.std.specs.Prelude.{IfOk}
use Rattle.kmipa_record.specs.Declarations.{DeclarationOf}
use Rattle.kmipa_ops.specs.declared.why.Why.{Why}
use Rattle.kmipa_ops.specs.declared.why.Why.TheVariants.{EarlierCallLate, StampRunsBack, BatchShape, OperationDiffers}
use Rattle.kmipa_check.specs.Steps.{StepOf}
use Rattle.kmipa_check.specs.declared.fault.CheckFault.{CheckFault}
use Rattle.kmipa_explain.specs.Causes.{TellsCause}
use Rattle.kmipa_explain.specs.Explainable.{IsOfItems}
use Rattle.kmipa_explain.specs.Holding.{TellsItem}
use Rattle.kmipa_explain.specs.Reading.{seen_subject}
use Rattle.kmipa_explain.specs.Sources.{SubjectOf}
use Rattle.kmipa_explain.specs.Standing.{TellsOfHeld}
use Rattle.kmipa_explain.specs.Whence.{IsSubject, TellsSubject}
use Rattle.kmipa_explain.specs.declared.explanation.Cause.{Cause}
use Rattle.kmipa_explain.specs.declared.subject.Resting.{Resting}

pub other_cause : (declared : DeclarationOf) (order : List StepOf) (turn : ℕ) (c : StepOf) (item : ℕ) (why : Why) (cause : Cause) → IsOfItems why → why ≢ OperationDiffers
    → TellsOfHeld declared order turn c item (TellsItem why c.response.stamp cause) → TellsCause declared order turn c item why cause
other_cause declared order turn c item EarlierCallLate cause o e told = absurd (o.in_time refl)
other_cause declared order turn c item StampRunsBack cause o e told = absurd (o.stamped refl)
other_cause declared order turn c item BatchShape cause o e told = absurd (o.shaped refl)
other_cause declared order turn c item OperationDiffers cause o e told = absurd (e refl)
other_cause declared order turn c item why cause o e told = told

pub of_items : (why : Why) → why ≢ EarlierCallLate → why ≢ StampRunsBack → why ≢ BatchShape → IsOfItems why
of_items why a b d = record { in_time = a; stamped = b; shaped = d }

-- the same of what is answered
pub other_cause_in : (declared : DeclarationOf) (order : List StepOf) (turn : ℕ) (c : StepOf) (item : ℕ) (why : Why) (result : Result Resting CheckFault) → IsOfItems why → why ≢ OperationDiffers
    → IfOk result (λ rest. TellsOfHeld declared order turn c item (TellsItem why c.response.stamp rest.cause)) → IfOk result (λ rest. TellsCause declared order turn c item why rest.cause)
other_cause_in declared order turn c item why (Ok rest) o e told = other_cause declared order turn c item why rest.cause o e told
other_cause_in declared order turn c item why (Err fault) o e told = told

-- ---- the object of which the cause speaks

other_subject : (declared : DeclarationOf) (order : List StepOf) (turn : ℕ) (c : StepOf) (item : ℕ) (why : Why) (cause : Cause) (subject : Option SubjectOf) → IsOfItems why → why ≢ OperationDiffers
    → TellsOfHeld declared order turn c item (IsSubject c.response.stamp cause subject) → TellsSubject declared order turn c item why cause subject
other_subject declared order turn c item EarlierCallLate cause subject o e told = absurd (o.in_time refl)
other_subject declared order turn c item StampRunsBack cause subject o e told = absurd (o.stamped refl)
other_subject declared order turn c item BatchShape cause subject o e told = absurd (o.shaped refl)
other_subject declared order turn c item OperationDiffers cause subject o e told = absurd (e refl)
other_subject declared order turn c item why cause subject o e told = told

pub other_subject_in : (declared : DeclarationOf) (order : List StepOf) (turn : ℕ) (c : StepOf) (item : ℕ) (why : Why) (result : Result Resting CheckFault) → IsOfItems why → why ≢ OperationDiffers
    → IfOk result (λ rest. TellsOfHeld declared order turn c item (IsSubject c.response.stamp rest.cause (option_map seen_subject rest.subject)))
    → IfOk result (λ rest. TellsSubject declared order turn c item why rest.cause (option_map seen_subject rest.subject))
other_subject_in declared order turn c item why (Ok rest) o e told = other_subject declared order turn c item why rest.cause (option_map seen_subject rest.subject) o e told
other_subject_in declared order turn c item why (Err fault) o e told = told
