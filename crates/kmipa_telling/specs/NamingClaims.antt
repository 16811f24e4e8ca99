-- What is told in JSON of numbers and of names of objects: as the standard names them.
use Rattle.std.specs.Prelude.{ℕ, ℤ, pos, List, codes, Option, Some, None}
use Rattle.std.specs.String.{string_bytes}
use Rattle.serde_json.specs.Data.{Members, no_members, object, string, put}
use Rattle.kmipa_attrs.specs.declared.name.Name.{Name}
use Rattle.kmipa_json.specs.Told.{integer}
use Rattle.kmipa_runs.specs.Notes.{name_among, name_types, object_types}

-- a name, where there is one
abbrev pub name_told : Option (List ℕ) → Members → Members
name_told None told = told
name_told (Some name) told = put (codes "name") (string name) told

-- a number, and the name that it has
abbrev pub number_members : ℤ → Option (List ℕ) → Members
number_members number name = name_told name (put (codes "number") (integer number) no_members)

-- an Object Type by its number, and its name
abbrev pub type_members : ℕ → Members
type_members number = number_members (pos number) (name_among object_types number)

-- a name of an object: its value and its type
abbrev pub name_members : Name → Members
name_members name = put (codes "type") (object (number_members (pos name.kind) (name_among name_types name.kind)))
    (put (codes "value") (string (string_bytes name.value)) no_members)
