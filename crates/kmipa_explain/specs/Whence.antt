-- Whence what was held is that a reason speaks of: the object that its cause speaks of, and the sources of what it has.
use Rattle.std.specs.Prelude.{◌≡◌, ℕ, ℤ, if◌then◌else◌, List, Option, Some, None, is_some, option_map}
use Rattle.std.specs.String.{string_bytes}
use Rattle.kmipa_object.specs.Life.{state}
use Rattle.kmipa_msgs.specs.Messages.{AskOf, AnswerOf}
use Rattle.kmipa_record.specs.Declarations.{DeclarationOf}
use Rattle.kmipa_record.specs.Entries.{EntryOf}
use Rattle.kmipa_ops.specs.declared.why.Why.{Why}
use Rattle.kmipa_ops.specs.declared.why.Why.TheVariants.{EarlierCallLate, StampRunsBack, BatchShape, OperationDiffers}
use Rattle.kmipa_check.specs.Described.{dates_in}
use Rattle.kmipa_check.specs.Steps.{StepOf}
use Rattle.kmipa_check.specs.declared.verdict.Refused.{Refused}
use Rattle.kmipa_explain.specs.Items.{about, items_of}
use Rattle.kmipa_explain.specs.Meant.{object_held}
use Rattle.kmipa_explain.specs.Sources.{SubjectOf, whence_of}
use Rattle.kmipa_explain.specs.Standing.{TellsOfHeld}
use Rattle.kmipa_explain.specs.declared.explanation.Cause.{Cause}
use Rattle.kmipa_explain.specs.declared.explanation.Cause.TheVariants as told
use Rattle.kmipa_explain.specs.declared.source.Whence.{Whence}

-- The identifier of the object whose sources are told with a cause: of a name that is taken the one that has it, else the one that is meant.
abbrev pub id_of_cause : Cause → Option (List ℕ) → Option (List ℕ)
id_of_cause (told.State s) meant = meant
id_of_cause (told.Bytes b) meant = meant
id_of_cause (told.Identifier id) meant = meant
id_of_cause (told.Name n) meant = Some (string_bytes n.bearer)
id_of_cause (told.Differing a) meant = meant
id_of_cause (told.Missing a) meant = meant
id_of_cause (told.Reason r) meant = if is_some r.object then meant else None
id_of_cause cause meant = None

-- a declared object at a moment
abbrev pub subject_at : ℤ → EntryOf → SubjectOf
subject_at t e = record { id = e.id; dates = dates_in e.attributes; state = state (dates_in e.attributes) t; bytes = is_some e.bytes }

-- the object of which a cause speaks, of what was held, where this identifier is meant, at the moment
abbrev pub subject_held : ℤ → Cause → DeclarationOf → Option (List ℕ) → Option SubjectOf
subject_held t cause held meant = option_map (subject_at t) (object_held held (id_of_cause cause meant))

-- exactly this is the object of which a cause speaks
abbrev pub IsSubject : ℤ → Cause → Option SubjectOf → DeclarationOf → Option (List ℕ) → AskOf → AnswerOf → Type 0
IsSubject t cause subject held placeholder ask answer = subject ≡ subject_held t cause held (about placeholder ask.asked answer.payload)

-- the same where the reason is one of what was held; of the calls alone there is no object
abbrev pub TellsSubject : DeclarationOf → List StepOf → ℕ → StepOf → ℕ → Why → Cause → Option SubjectOf → Type 0
TellsSubject declared order turn c item EarlierCallLate cause subject = subject ≡ None
TellsSubject declared order turn c item StampRunsBack cause subject = subject ≡ None
TellsSubject declared order turn c item BatchShape cause subject = subject ≡ None
TellsSubject declared order turn c item OperationDiffers cause subject = subject ≡ None
TellsSubject declared order turn c item why cause subject = TellsOfHeld declared order turn c item (IsSubject c.response.stamp cause subject)

-- The sources that are told: those of the object of which the cause speaks, if there is one.
pub record TellsWhence (declared : DeclarationOf) (order : List StepOf) (turn : ℕ) (c : StepOf) (r : Refused) (cause : Cause) (whence : Option Whence) : Type 0 where
  pub subject : Option SubjectOf
  pub is : TellsSubject declared order turn c r.item r.why cause subject
  pub sources : whence ≡ option_map (whence_of declared (items_of order) r) subject
