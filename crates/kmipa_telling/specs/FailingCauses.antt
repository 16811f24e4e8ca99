-- What is printed of a Result Reason of which no cause holds, and of what stands against its causes.
use Rattle.std.specs.Prelude.{◌≡◌, ℕ, pos, List, [], ◌∷◌, ◌++◌, codes, flat_map, Option, Some, None}
use Rattle.kmipa_msgs.specs.declared.rules.Cause.{Cause as FailureCause}
use Rattle.kmipa_msgs.specs.declared.rules.Cause.TheVariants.{NotFound, WrongState, TakenName}
use Rattle.kmipa_object.specs.Life.{state_name}
use Rattle.kmipa_object.specs.declared.allow.Allow.{Allow}
use Rattle.kmipa_object.specs.declared.allow.Allow.TheVariants.{Must, May, Not}
use Rattle.kmipa_explain.specs.declared.held.ReasonHeld.{ReasonHeld}
use Rattle.kmipa_explain.specs.declared.held.StateHeld.{StateHeld}
use Rattle.kmipa_explain.specs.declared.source.Whence.{Whence}
use Rattle.kmipa_runs.specs.Lines.{line}
use Rattle.kmipa_runs.specs.Notes.{name_among, result_reasons}
use Rattle.kmipa_telling.specs.Naming.{number_text}
use Rattle.kmipa_telling.specs.StateCauses.{PrintsSince, act_text, line_text}

-- the line of a reason: its number, and its name
abbrev pub reason_line : ℕ → List ℕ
reason_line reason = line (codes "reason: " ∷ number_text (pos reason) (name_among result_reasons reason) ∷ [])

-- what may be behind a reason
abbrev pub behind_text : FailureCause → List ℕ
behind_text NotFound = codes "the object is not there, or destroyed"
behind_text WrongState = codes "the state of the object"
behind_text TakenName = codes "an object has one of the names"

abbrev pub behind_line : FailureCause → List ℕ
behind_line cause = line (codes "may be behind it: " ∷ behind_text cause ∷ [])

-- what a state says of an operation: success must be possible, or a refusal may be founded too, or success is impossible
abbrev pub allow_text : Allow → List ℕ
allow_text Must = codes "allows"
allow_text May = codes "may exclude"
allow_text Not = codes "excludes"

-- the line of a state, and of what the server's rules say of an operation in it
abbrev pub judged_line : StateHeld → List ℕ
judged_line s =
    line (codes "state: " ∷ state_name s.state ∷ codes ", which " ∷ allow_text s.allow ∷ codes " " ∷ act_text s.act ∷ line_text s.by_line ∷ [])

-- the same with whence the state is, and the dates that it follows from
abbrev pub PrintsJudged : StateHeld → Option Whence → List ℕ → Type 0
PrintsJudged s w lines = (since : List ℕ) × PrintsSince w s.dates since × (lines ≡ judged_line s ++ since)

-- what stands against the causes: the object that is there, or that there is no such one
abbrev pub PrintsAgainst : Option StateHeld → Option Whence → List ℕ → Type 0
PrintsAgainst None w lines = lines ≡ line (codes "held: no such object" ∷ [])
PrintsAgainst (Some s) w lines = PrintsJudged s w lines

-- the reason, a line for each cause, and what stands against them
abbrev pub PrintsReason : ReasonHeld → Option Whence → List ℕ → Type 0
PrintsReason r w lines = (against : List ℕ) × PrintsAgainst r.object w against × (lines ≡ reason_line r.reason ++ (flat_map behind_line r.causes.items ++ against))
