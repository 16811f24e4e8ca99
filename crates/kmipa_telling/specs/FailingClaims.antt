-- What is told in JSON of a Result Reason of which no cause holds.
use Rattle.std.specs.Prelude.{◌≡◌, ℕ, pos, List, codes, Option, Some, None}
use Rattle.serde_json.specs.Data.{Members, array, object, string, put, no_members}
use Rattle.kmipa_msgs.specs.Numbers.{cause_number}
use Rattle.kmipa_msgs.specs.declared.rules.Cause.{Cause as FailureCause}
use Rattle.kmipa_msgs.specs.declared.rules.Cause.TheVariants.{NotFound, WrongState, TakenName}
use Rattle.kmipa_object.specs.Life.{state_name}
use Rattle.kmipa_object.specs.declared.allow.Allow.{Allow}
use Rattle.kmipa_object.specs.declared.allow.Allow.TheVariants.{Must, May, Not}
use Rattle.kmipa_explain.specs.declared.held.ReasonHeld.{ReasonHeld}
use Rattle.kmipa_explain.specs.declared.held.StateHeld.{StateHeld}
use Rattle.kmipa_runs.specs.Notes.{name_among, result_reasons}
use Rattle.kmipa_telling.specs.Lists.{objects}
use Rattle.kmipa_telling.specs.NamingClaims.{number_members}
use Rattle.kmipa_telling.specs.StateCauses.{act_text}
use Rattle.kmipa_telling.specs.StateClaims.{TellsDates, line_members}

-- the number of a reason, and its name
abbrev pub reason_members : ℕ → Members
reason_members reason = number_members (pos reason) (name_among result_reasons reason)

-- the rows of the cause table
abbrev pub behind_name : FailureCause → List ℕ
behind_name NotFound = codes "NotFound"
behind_name WrongState = codes "WrongState"
behind_name TakenName = codes "TakenName"

-- a cause by its number in a declaration, and its name
abbrev pub behind_members : FailureCause → Members
behind_members cause = number_members (pos (cause_number cause)) (Some (behind_name cause))

-- what the server's rules say of an operation
abbrev pub allow_name : Allow → List ℕ
allow_name Must = codes "must"
allow_name May = codes "may"
allow_name Not = codes "not"

-- a state, and what the rules say of an operation in it
abbrev pub judged_members : StateHeld → Members
judged_members s = line_members s.by_line (put (codes "allows") (string (allow_name s.allow))
    (put (codes "operation") (string (act_text s.act)) (put (codes "name") (string (state_name s.state)) no_members)))

-- the same with the dates that it follows from
abbrev pub TellsJudged : StateHeld → Members → Type 0
TellsJudged s told = TellsDates s.dates (judged_members s) told

-- the object that stands against the causes, where there is one
abbrev pub TellsAgainst : Option StateHeld → Members → Members → Type 0
TellsAgainst None before after = after ≡ before
TellsAgainst (Some s) before after = (told : Members) × TellsJudged s told × (after ≡ put (codes "state") (object told) before)

-- the reason, what may be behind it, and the object
abbrev pub TellsReason : ReasonHeld → Members → Type 0
TellsReason r told = TellsAgainst r.object (put (codes "causes") (array (objects behind_members r.causes.items)) (reason_members r.reason)) told
