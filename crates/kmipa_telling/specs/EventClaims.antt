-- What is told in JSON of operations, and of items that were done.
use Rattle.std.specs.Prelude.{ℕ, List, codes, Option, Some, None}
use Rattle.serde_json.specs.Data.{Members, no_members, object, boolean, put}
use Rattle.kmipa_json.specs.Told.{count, integer}
use Rattle.kmipa_explain.specs.declared.explanation.Event.{Event}
use Rattle.kmipa_runs.specs.Notes.{name_among, operations}
use Rattle.kmipa_telling.specs.NamingClaims.{name_told}
use Rattle.kmipa_telling.specs.Telling.{TellsDate}

-- an operation: its number, and its name where the standard names it
abbrev pub operation_members : ℕ → Members
operation_members number = name_told (name_among operations number) (put (codes "number") (count number) no_members)

-- an operation under this name, where there is one
abbrev pub operation_told : List ℕ → Option ℕ → Members → Members
operation_told key None told = told
operation_told key (Some number) told = put key (object (operation_members number)) told

-- where an item was done, what was done, and whether it was undone
abbrev pub event_members : Event → Members
event_members e = put (codes "undone") (boolean e.undone) (put (codes "operation") (object (operation_members e.operation))
    (put (codes "item") (count e.item) (put (codes "call") (integer e.call) (put (codes "turn") (count e.turn) no_members))))

-- the same with the moment of its stamp
abbrev pub TellsEvent : Event → Members → Type 0
TellsEvent e told = TellsDate (Some e.stamp) (event_members e) told
