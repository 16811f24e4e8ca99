-- What `search --explain` makes and prints: the lines of a search, and behind those of a giving up whether it has decided, and its deepest place.
use Rattle.std.specs.Prelude.{◌≡◌, ℕ, if◌then◌else◌, nat_lt, List, [], ◌∷◌, ◌++◌, codes, flat_map, length, Option, Some, None, Result, Ok, Err, String}
use Rattle.std.specs.Fmt.{decimal, signed_decimal}
use Rattle.std.specs.String.{string_bytes}
use Rattle.std.specs.declared.alloc.Global.{Global}
use Rattle.kmipa_runs.specs.Lines.{line}
use Rattle.kmipa_searches.specs.Searches.{found_status, searched_text, Makes}
use Rattle.kmipa_runs.specs.Shown.{quoted}
use Rattle.kmipa_jobs.specs.declared.status.Status.{Status}
use Rattle.kmipa_searches.specs.Deepest.{reached_text}
use Rattle.kmipa_telling.specs.FaultsTold.{PrintsFaultTold}
use Rattle.kmipa_telling.specs.Phrases.{calls_text}
use Rattle.kmipa_telling.specs.declared.meaning.FaultTold.{FaultTold}
use Rattle.kmipa_searches.specs.declared.judged.Decision.{Decision}
use Rattle.kmipa_searches.specs.declared.judged.Decision.TheVariants as decision
use Rattle.kmipa_searches.specs.declared.judged.Judged.{Judged}

-- an identifier in quotes behind a blank
abbrev pub quoted_behind : String Global → List ℕ
quoted_behind id = 32 ∷ quoted (string_bytes id)

abbrev pub objects_word : ℕ → List ℕ
objects_word count = if nat_lt 1 count then codes "objects" else codes "object"

-- objects by their identifiers
abbrev pub objects_text : List (String Global) → List ℕ
objects_text objects = objects_word (length objects) ++ flat_map quoted_behind objects

-- the line of what giving up says
abbrev pub decision_line : Decision → List ℕ
decision_line decision.Decided = line (codes "decided: no order explains every answer" ∷ [])
decision_line (decision.UsedUp steps) = line (codes "not decided: the budget of " ∷ decimal steps ∷ codes " steps is used up" ∷ [])
decision_line decision.Impossible = line (codes "decided: no order explains every answer" ∷ [])
decision_line (decision.Objects objects) = line (codes "decided: no order explains the answers about " ∷ objects_text objects.items ∷ [])
decision_line (decision.NotPlain numbers) = line (codes "not decided: these are not plain: " ∷ calls_text numbers.items ∷ [])
decision_line (decision.OutOfTime seconds) = line (codes "not decided: " ∷ decimal seconds ∷ codes " seconds are over" ∷ [])
decision_line (decision.Tolerant seconds) = line (codes "not decided: moments within " ∷ signed_decimal seconds ∷ codes " seconds of their stamps were not all tried" ∷ [])
decision_line decision.Births = line (codes "not decided: what the server itself may give at birth was not all tried" ∷ [])

-- of a yes nothing more is printed
abbrev pub decision_text : Option Decision → List ℕ
decision_text None = []
decision_text (Some said) = decision_line said

-- the lines of what was found, and behind them what giving up says, and the deepest place
abbrev pub judged_text : Judged → List ℕ
judged_text judged = searched_text judged.searched ++ (decision_text judged.decision ++ reached_text judged.reached)

-- What is made and printed at a status: what a search without `--explain` does, but for the lines more. A fault prints its line, and behind it
-- those of what it means, and makes nothing.
abbrev pub PrintsGivingUp : Result Judged FaultTold → Status → List ℕ → List ℕ → Type 0
PrintsGivingUp (Ok judged) said lines made = (said ≡ found_status judged.searched.found) × (lines ≡ judged_text judged) × Makes judged.searched.found made
PrintsGivingUp (Err told) said lines made = PrintsFaultTold told said lines × (made ≡ [])
