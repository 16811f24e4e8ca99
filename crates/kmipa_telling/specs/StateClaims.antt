-- What is told in JSON of an object's state, of the operation that it bears on, and of the dates that it follows from.
use Rattle.std.specs.Prelude.{◌≡◌, ℕ, ℤ, Bool, true, false, List, codes, Option, Some, None}
use Rattle.serde_json.specs.Data.{Members, no_members, object, string, put}
use Rattle.kmipa_object.specs.Life.{state_name}
use Rattle.kmipa_explain.specs.declared.held.DatesHeld.{DatesHeld}
use Rattle.kmipa_explain.specs.declared.held.StateHeld.{StateHeld}
use Rattle.kmipa_telling.specs.StateCauses.{act_text}
use Rattle.kmipa_telling.specs.Telling.{TellsDate}

-- a moment under this name, where there is one
abbrev pub TellsMoment : List ℕ → Option ℤ → Members → Members → Type 0
TellsMoment key None before after = after ≡ before
TellsMoment key (Some second) before after = (told : Members) × TellsDate (Some second) no_members told × (after ≡ put key (object told) before)

-- an object's dates, those that it has
abbrev pub TellsDates : DatesHeld → Members → Members → Type 0
TellsDates d before after = (initial : Members) × TellsMoment (codes "initial_date") d.initial before initial
    × ((activation : Members) × TellsMoment (codes "activation_date") d.activation initial activation
    × ((deactivation : Members) × TellsMoment (codes "deactivation_date") d.deactivation activation deactivation
    × ((destroy : Members) × TellsMoment (codes "destroy_date") d.destroy deactivation destroy
    × TellsMoment (codes "compromise_date") d.compromise destroy after)))

-- that a line of the declaration says so, and not the table, where one does
abbrev pub line_members : Bool → Members → Members
line_members true before = put (codes "by") (string (codes "declaration")) before
line_members false before = before

-- a state, and the operation that it excludes
abbrev pub state_members : StateHeld → Members
state_members s = line_members s.by_line (put (codes "excludes") (string (act_text s.act)) (put (codes "name") (string (state_name s.state)) no_members))

-- the same with the dates that it follows from
abbrev pub TellsState : StateHeld → Members → Type 0
TellsState s told = TellsDates s.dates (state_members s) told
