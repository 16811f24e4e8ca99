-- What is told in JSON of a list that holds what may not be listed, or leaves out what must be.
use Rattle.std.specs.Prelude.{ℤ, codes, Option, Some, None}
use Rattle.std.specs.String.{string_bytes}
use Rattle.serde_json.specs.Data.{Members, array, no_members, string, put}
use Rattle.kmipa_explain.specs.declared.held.LeftOutHeld.{LeftOutHeld}
use Rattle.kmipa_explain.specs.declared.held.ListFault.{ListFault}
use Rattle.kmipa_explain.specs.declared.held.ListFault.TheVariants.{Again, Absent, Excluded}
use Rattle.kmipa_explain.specs.declared.held.ListHeld.{ListHeld}
use Rattle.kmipa_explain.specs.declared.held.WronglyListed.{WronglyListed}
use Rattle.kmipa_json.specs.Told.{count, integer}
use Rattle.kmipa_telling.specs.Lists.{objects}
use Rattle.kmipa_telling.specs.Naming.{attribute_name}
use Rattle.kmipa_telling.specs.StateClaims.{TellsMoment}

-- ---- what may not be listed

-- why an identifier may not be listed
abbrev pub fault_told : ListFault → Members → Members
fault_told Again told = put (codes "fault") (string (codes "Again")) told
fault_told Absent told = put (codes "fault") (string (codes "Absent")) told
fault_told (Excluded filter) told = put (codes "filter") (string (attribute_name filter)) (put (codes "fault") (string (codes "Excluded")) told)

-- an identifier that may not be listed
abbrev pub wrong_members : WronglyListed → Members
wrong_members w = fault_told w.fault (put (codes "identifier") (string (string_bytes w.identifier)) no_members)

-- the maximum, where more are listed
abbrev pub maximum_told : Option ℤ → Members → Members
maximum_told None told = told
maximum_told (Some most) told = put (codes "maximum_items") (integer most) told

-- how many are listed, the maximum, and what is wrong
abbrev pub listed_members : ListHeld → Members
listed_members l = put (codes "wrong") (array (objects wrong_members l.wrong.items)) (maximum_told l.maximum (put (codes "identifiers") (count l.listed) no_members))

-- ---- what must be listed

-- an object that must be listed and isn't, and when it was made
abbrev pub TellsLeftOut : LeftOutHeld → Members → Type 0
TellsLeftOut held told = TellsMoment (codes "initial_date") held.initial (put (codes "identifier") (string (string_bytes held.identifier)) no_members) told
