-- A request may mean the ID Placeholder by the Enumeration 1 as Unique Identifier (KMIP 2.1, section 11). Such an item is read as one that has no
-- identifier: as it is told.
use Rattle.std.specs.Prelude.{ℕ, Bool, true, false, ◌==◌, if◌then◌else◌, Option, Some, None}
use Rattle.kmipa_ttlv.specs.Tree.{Tree, Trees, structure, scalar, none, more, tag_of}
use Rattle.kmipa_ttlv.specs.Tree
use Rattle.kmipa_attrs.specs.Fields.{at, first, as_enumeration}
use Rattle.kmipa_attrs.specs.Tags.{operation_tag, request_payload, unique_identifier}
use Rattle.kmipa_attrs.specs.declared.fields.Field.{Field}
use Rattle.kmipa_attrs.specs.declared.fields.Field.TheVariants.{Absent, Wrong, There}
use Rattle.kmipa_msgs.specs.Operations.{is_on_object, operation_of}

-- the field is there, and has the number of an operation on an object
abbrev pub asks_on_object : Field ℕ → Bool
asks_on_object Absent = false
asks_on_object Wrong = false
asks_on_object (There n) = is_on_object (operation_of n)

-- the Enumeration 1
abbrev pub is_placeholder : Tree → Bool
is_placeholder (scalar n (Tree.enumeration x)) = x == 1
is_placeholder t = false

abbrev pub is_some_placeholder : Option Tree → Bool
is_some_placeholder None = false
is_some_placeholder (Some t) = is_placeholder t

-- behind the first Unique Identifier, which is the one that is read, another is an item of no field
abbrev pub unread_identifier : Tree → Tree
unread_identifier t = if tag_of t == unique_identifier then structure 0 none else t

abbrev pub behind_identifier : Trees → Trees
behind_identifier none = none
behind_identifier (more t ts) = more (unread_identifier t) (behind_identifier ts)

-- the first Unique Identifier is taken out
abbrev pub without_identifier : Trees → Trees
without_identifier none = none
without_identifier (more t ts) = if tag_of t == unique_identifier then behind_identifier ts else more t (without_identifier ts)

-- the children of a Request Payload, where an Enumeration 1 is taken out
abbrev pub told_payload : Trees → Trees
told_payload ts = if is_some_placeholder (first unique_identifier ts) then without_identifier ts else ts

abbrev pub told_in : Tree → Tree
told_in (structure n ts) = structure n (told_payload ts)
told_in (scalar n s) = scalar n s

-- the Request Payload that is read is the first
abbrev pub told_fields : Trees → Trees
told_fields none = none
told_fields (more t ts) = if tag_of t == request_payload then more (told_in t) ts else more t (told_fields ts)

-- THE ITEM AS IT IS TOLD
abbrev pub told : Tree → Tree
told (structure n ts) = structure n (if asks_on_object (at as_enumeration operation_tag ts) then told_fields ts else ts)
told (scalar n s) = scalar n s
