-- What is printed of what a reason rests on, reason by reason.
use Rattle.std.specs.Prelude.{◌≡◌, ℕ, Bool, true, false, List, [], ◌∷◌, ◌++◌, codes, Option, Some, None}
use Rattle.std.specs.Fmt.{decimal, signed_decimal}
use Rattle.std.specs.String.{string_bytes}
use Rattle.kmipa_runs.specs.Dates.{TellsSecond}
use Rattle.kmipa_runs.specs.Lines.{line}
use Rattle.kmipa_runs.specs.Shown.{quoted}
use Rattle.kmipa_telling.specs.AttributeCauses.{PrintsAttributes}
use Rattle.kmipa_telling.specs.EchoCauses.{echo_line}
use Rattle.kmipa_telling.specs.FailingCauses.{PrintsReason}
use Rattle.kmipa_telling.specs.ListingCauses.{PrintsLeftOuts, listed_lines}
use Rattle.kmipa_telling.specs.MakingCauses.{identifier_line, length_lines, name_line}
use Rattle.kmipa_telling.specs.Phrases.{calls_text, named_text, operation_text}
use Rattle.kmipa_telling.specs.Sources.{object_source}
use Rattle.kmipa_telling.specs.StateCauses.{PrintsState}
use Rattle.kmipa_msgs.specs.declared.request.BatchOption.{BatchOption}
use Rattle.kmipa_msgs.specs.declared.request.BatchOption.TheVariants.{Stop, Continue, Undo}
use Rattle.kmipa_msgs.specs.declared.response.Status.{Status as ItemStatus}
use Rattle.kmipa_msgs.specs.declared.response.Status.TheVariants.{Success, Failed, Undone}
use Rattle.kmipa_explain.specs.Meant.{text_of}
use Rattle.kmipa_explain.specs.declared.explanation.Cause.{Cause}
use Rattle.kmipa_explain.specs.declared.explanation.Cause.TheVariants as cause
use Rattle.kmipa_explain.specs.declared.explanation.Operations.{Operations}
use Rattle.kmipa_explain.specs.declared.explanation.Shape.{Shape}
use Rattle.kmipa_explain.specs.declared.explanation.TurnBefore.{TurnBefore}
use Rattle.kmipa_explain.specs.declared.held.BytesHeld.{BytesHeld}
use Rattle.kmipa_explain.specs.declared.source.Whence.{Whence}

-- the line of the turn before, with the date of its stamp
abbrev pub PrintsBefore : TurnBefore → List ℕ → Type 0
PrintsBefore before lines = (date : List ℕ) × TellsSecond before.stamp date
    × (lines ≡ line (codes "turn before: turn " ∷ decimal before.turn ∷ codes " call " ∷ signed_decimal before.call ∷ codes " at " ∷ date ∷ []))

abbrev pub option_text : BatchOption → List ℕ
option_text Stop = codes "Stop"
option_text Continue = codes "Continue"
option_text Undo = codes "Undo"

abbrev pub status_text : ItemStatus → List ℕ
status_text Success = codes "Success"
status_text Failed = codes "Operation Failed"
status_text Undone = codes "Operation Undone"

abbrev pub failed_text : Option ℕ → List ℕ
failed_text None = codes "none"
failed_text (Some item) = codes "item " ++ decimal item

abbrev pub asked_text : Bool → List ℕ
asked_text true = codes "asked for"
asked_text false = codes "not asked for"

abbrev pub answered_text : Option ItemStatus → List ℕ
answered_text None = codes "not answered"
answered_text (Some status) = codes "answered " ++ status_text status

-- the lines of what a shape is judged by
abbrev pub shape_lines : Shape → List ℕ
shape_lines s = line (codes "on errors: " ∷ option_text s.option ∷ codes "\nfirst failed: " ∷ failed_text s.failed
    ∷ codes "\nthis item: " ∷ asked_text s.asked ∷ codes ", " ∷ answered_text s.status ∷ [])

-- the lines of two operations that differ
abbrev pub operations_lines : Operations → List ℕ
operations_lines o = line (codes "asked: " ∷ operation_text o.asked ∷ codes "\nanswered: " ∷ named_text o.answered ∷ [])

-- the line of an identifier of which there is no object; none is meant where the ID Placeholder is, and holds none
abbrev pub absent_line : Option (List ℕ) → List ℕ
absent_line None = line (codes "no object: the ID Placeholder is empty" ∷ [])
absent_line (Some id) = line (codes "no object: " ∷ quoted id ∷ [])

-- the lines of bytes that differ: how many there are, and where they differ first
abbrev pub bytes_lines : BytesHeld → List ℕ
bytes_lines b = line (codes "known bytes: " ∷ decimal b.known ∷ codes "\nshown bytes: " ∷ decimal b.shown
    ∷ codes "\nfirst difference: offset " ∷ decimal b.differ_at ∷ [])

-- what is printed of what the reason rests on, with whence the state and the attributes are
abbrev pub PrintsCause : Cause → Option Whence → List ℕ → Type 0
PrintsCause (cause.EarlierCalls numbers) w lines = lines ≡ line (codes "ended before it began, and later: " ∷ calls_text numbers.items ∷ [])
PrintsCause (cause.StampBefore before) w lines = PrintsBefore before lines
PrintsCause (cause.BatchShape shape) w lines = lines ≡ shape_lines shape
PrintsCause (cause.Operations operations) w lines = lines ≡ operations_lines operations
PrintsCause (cause.NoObject meant) w lines = lines ≡ absent_line (text_of meant)
PrintsCause (cause.State held) w lines = PrintsState held w lines
PrintsCause (cause.Bytes held) w lines = lines ≡ bytes_lines held
PrintsCause (cause.Identifier id) w lines = lines ≡ identifier_line (string_bytes id)
PrintsCause (cause.Name held) w lines = lines ≡ name_line held
PrintsCause (cause.Length held) w lines = lines ≡ length_lines held
PrintsCause (cause.Differing held) w lines = PrintsAttributes (codes " shown, not held") None w held lines
PrintsCause (cause.Missing held) w lines = PrintsAttributes (codes " held, not shown") (object_source w) w held lines
PrintsCause (cause.Listed held) w lines = lines ≡ listed_lines held
PrintsCause (cause.LeftOut left) w lines = PrintsLeftOuts left.items lines
PrintsCause (cause.Reason held) w lines = PrintsReason held w lines
PrintsCause (cause.Echo held) w lines = lines ≡ echo_line held
PrintsCause cause.Object w lines = lines ≡ []
