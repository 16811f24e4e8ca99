-- The numbers of what has few values, on the wire (KMIP 2.1, section 11) and in a declaration.
use Rattle.std.specs.Prelude.{ℕ, ◌==◌, if◌then◌else◌, Option, Some, None}
use Rattle.kmipa_msgs.specs.declared.key_block.KeyFormat.{KeyFormat}
use Rattle.kmipa_msgs.specs.declared.key_block.KeyFormat.TheVariants.{Raw, Opaque}
use Rattle.kmipa_msgs.specs.declared.request.BatchOption.{BatchOption}
use Rattle.kmipa_msgs.specs.declared.request.BatchOption.TheVariants.{Continue, Stop, Undo}
use Rattle.kmipa_msgs.specs.declared.response.Status.{Status}
use Rattle.kmipa_msgs.specs.declared.response.Status.TheVariants.{Success, Failed, Undone}
use Rattle.kmipa_msgs.specs.declared.rules.Cause.{Cause}
use Rattle.kmipa_msgs.specs.declared.rules.Cause.TheVariants.{NotFound, WrongState, TakenName}
use Rattle.kmipa_msgs.specs.declared.rules.Unjudged.{Unjudged}
use Rattle.kmipa_msgs.specs.declared.rules.Unjudged.TheVariants.{Refused, SetAside, Unknown}
use Rattle.kmipa_msgs.specs.declared.rules.Visibility.{Visibility}
use Rattle.kmipa_msgs.specs.declared.rules.Visibility.TheVariants.{Everyone, MayHide, MustHide}

-- Key Format Type
abbrev pub format_number : KeyFormat → ℕ
format_number Raw = 1
format_number Opaque = 2

abbrev pub format_of : ℕ → Option KeyFormat
format_of n = if n == 1 then Some Raw else if n == 2 then Some Opaque else None

-- Batch Error Continuation Option
abbrev pub option_number : BatchOption → ℕ
option_number Continue = 1
option_number Stop = 2
option_number Undo = 3

abbrev pub option_of : ℕ → Option BatchOption
option_of n = if n == 1 then Some Continue else if n == 2 then Some Stop else if n == 3 then Some Undo else None

-- Result Status, but for Pending
abbrev pub status_number : Status → ℕ
status_number Success = 0
status_number Failed = 1
status_number Undone = 3

abbrev pub status_of : ℕ → Option Status
status_of n = if n == 0 then Some Success else if n == 1 then Some Failed else if n == 3 then Some Undone else None

-- the cause of a refusal, in a declaration
abbrev pub cause_number : Cause → ℕ
cause_number NotFound = 1
cause_number WrongState = 2
cause_number TakenName = 3

abbrev pub cause_of : ℕ → Option Cause
cause_of n = if n == 1 then Some NotFound else if n == 2 then Some WrongState else if n == 3 then Some TakenName else None

-- whether clients see the objects of others, in a declaration
abbrev pub visibility_number : Visibility → ℕ
visibility_number Everyone = 1
visibility_number MayHide = 2
visibility_number MustHide = 3

abbrev pub visibility_of : ℕ → Option Visibility
visibility_of n = if n == 1 then Some Everyone else if n == 2 then Some MayHide else if n == 3 then Some MustHide else None

-- what becomes of what isn't judged, in a declaration
abbrev pub unjudged_number : Unjudged → ℕ
unjudged_number Refused = 1
unjudged_number SetAside = 2
unjudged_number Unknown = 3

abbrev pub unjudged_of : ℕ → Option Unjudged
unjudged_of n = if n == 1 then Some Refused else if n == 2 then Some SetAside else if n == 3 then Some Unknown else None
