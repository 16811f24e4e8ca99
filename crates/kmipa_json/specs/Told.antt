-- What an object or a list tells, and what is told of a file. JSON is that of RFC 8259.
use Rattle.std.specs.Prelude.{ℕ, ℤ, List, [], ◌∷◌, ◌++◌, length, codes, flat_map}
use Rattle.std.specs.Str.{chars}
use Rattle.hex.specs.Hex.{encode_lower}
use Rattle.serde_json.specs.Data.{Data, Items, Members, no_items, item, no_members, number, string, unsigned, put}
use Rattle.serde_json.specs.Find.{of_integer}
use Rattle.serde_json.specs.View.{items_view, members_view}
use Rattle.serde_json.specs.Written.{compact_text}
use Rattle.sha2.specs.Sha256.{sha256}
use Rattle.kmipa_json.specs.Escapes.{told_char}
use Rattle.kmipa_json.specs.declared.list.JsonList.{JsonList}
use Rattle.kmipa_json.specs.declared.object.JsonObject.{JsonObject}

-- the members of an object that is being made
abbrev pub members_of : JsonObject → Members
members_of o = members_view o.members.entries

-- the items of a list that is being made
abbrev pub items_of : JsonList → Items
items_of l = items_view l.items.items

-- one more item, behind the others
abbrev pub with_item : Data → Items → Items
with_item d no_items = item d no_items
with_item d (item e ds) = item e (with_item d ds)

-- a number that is never negative
abbrev pub count : ℕ → Data
count n = number (unsigned n)

-- a number that may be
abbrev pub integer : ℤ → Data
integer z = number (of_integer z)

-- a value's text without spaces, on a line of its own; in its strings hidden characters stand as escapes
abbrev pub line_of : Data → List ℕ
line_of d = flat_map told_char (chars (compact_text d)) ++ 10 ∷ []

-- what is told of a file: its part in the run, its length, and its digest (FIPS 180-4) in hexadecimal digits
abbrev pub file_members : List ℕ → List ℕ → Members
file_members role bytes = put (codes "sha256") (string (encode_lower (sha256 bytes)))
    (put (codes "length") (count (length bytes)) (put (codes "role") (string role) no_members))
