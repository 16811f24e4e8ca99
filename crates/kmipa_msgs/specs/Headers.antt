-- What the headers of requests and responses share (KMIP 2.1, section 9).
use Rattle.std.specs.Prelude.{◌≡◌, ℕ, ℤ, pos, negsuc, Bool, true, false, ◌==◌, ◌&&◌, nat_lt, List, Option, Some, None, Result, Err}
use Rattle.std.specs.Ordering.{int_eq}
use Rattle.kmipa_ttlv.specs.Tree.{Tree, Trees}
use Rattle.kmipa_ttlv.specs.ViewTree.{view_trees}
use Rattle.kmipa_ttlv.specs.declared.view.Children.{Children}
use Rattle.kmipa_attrs.specs.Fields.{tag_of, every, at, inside, as_structure, as_integer}
use Rattle.kmipa_attrs.specs.Tags.{batch_count, batch_item, protocol_version, protocol_version_major, protocol_version_minor}
use Rattle.kmipa_attrs.specs.declared.fields.Field.{Field}
use Rattle.kmipa_attrs.specs.declared.fields.Field.TheVariants.{Absent, Wrong, There}
use Rattle.kmipa_msgs.specs.declared.kind.OutsideKind.{OutsideKind}
use Rattle.kmipa_msgs.specs.declared.kind.OutsideKind.TheVariants.{NotAMessage, Version, Count}
use Rattle.kmipa_msgs.specs.Tables.{children}
use Rattle.kmipa_attrs.specs.Readings.{both, kept_if}
use Rattle.kmipa_msgs.specs.Kinds.{kind_number}

abbrev pub is_structure : Field Trees → Bool
is_structure Absent = false
is_structure Wrong = false
is_structure (There ts) = true

-- the message's tag, and in it the header as a structure
abbrev pub is_message : ℕ → ℕ → Tree → Bool
is_message message header t = (tag_of t == message) && is_structure (at as_structure header (children t))

abbrev pub is_number : Field ℤ → ℤ → Bool
is_number Absent n = false
is_number Wrong n = false
is_number (There m) n = int_eq m n

-- Protocol Version { Major 2, Minor 1 }, in a header
abbrev pub is_version : Trees → Bool
is_version hs = is_number (at as_integer protocol_version_major (inside protocol_version hs)) (pos 2) && is_number (at as_integer protocol_version_minor (inside protocol_version hs)) (pos 1)

abbrev pub counts : ℤ → ℕ → Bool
counts (pos m) n = (m == n) && nat_lt 0 n
counts (negsuc m) n = false

-- Batch Count, in a header, of so many items, at least one
abbrev pub count_is : Field ℤ → ℕ → Bool
count_is Absent n = false
count_is Wrong n = false
count_is (There z) n = counts z n

abbrev pub is_count : Trees → ℕ → Bool
is_count hs n = count_is (at as_integer batch_count hs) n

-- the Batch Items
abbrev pub batch : Tree → List Tree
batch t = every batch_item (children t)

-- the children of the message and of its header, where the item is the message
abbrev pub Opens : ℕ → ℕ → Tree → Option (Children × Children) → Type 0
Opens message header t None = is_message message header t ≡ false
Opens message header t (Some p) = (is_message message header t ≡ true) × (view_trees p.0 ≡ children t) × (view_trees p.1 ≡ inside header (children t))

-- THE READING: nothing else is reported of what is no message
abbrev pub gated : {A : Type 0} → Bool → Result A OutsideKind → Result A OutsideKind
gated true r = r
gated false r = Err NotAMessage

-- the version and the count of a header before so many items
abbrev pub plain_rows : Trees → ℕ → Result (Unit {0} × Unit {0}) OutsideKind
plain_rows hs n = both kind_number (kept_if (is_version hs) tt Version) (kept_if (is_count hs n) tt Count)
