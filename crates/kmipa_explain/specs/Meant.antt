-- The object that is meant, of what was held.
use Rattle.std.specs.List.{list_any}
use Rattle.std.specs.Prelude.{ℕ, Bool, List, find, bytes_eq, Option, Some, None, option_and_then, option_map, String}
use Rattle.kmipa_object.specs.Allowances.{is_line_of}
use Rattle.kmipa_object.specs.Life.{Dates}
use Rattle.kmipa_object.specs.declared.allow.Act.{Act}
use Rattle.kmipa_object.specs.declared.allow.AllowLine.{AllowLine}
use Rattle.kmipa_object.specs.declared.state.State.{State}
use Rattle.kmipa_msgs.specs.Messages.{AskedOf}
use Rattle.kmipa_ops.specs.Row.{act_by}
use Rattle.kmipa_ops.specs.Rows.{subject_asked}
use Rattle.kmipa_record.specs.Declarations.{DeclarationOf}
use Rattle.kmipa_record.specs.Entries.{EntryOf}
use Rattle.kmipa_check.specs.Described.{dates_in}
use Rattle.kmipa_explain.specs.declared.held.DatesHeld.{DatesHeld}
use Rattle.std.specs.String.{string_bytes}

-- the object of this identifier, where an identifier is meant and an object has it
abbrev pub object_held : DeclarationOf → Option (List ℕ) → Option EntryOf
object_held held None = None
object_held held (Some id) = find (λ (e : EntryOf). bytes_eq id e.id) held.entries

-- its dates
abbrev pub dates_held : DeclarationOf → Option (List ℕ) → Option Dates
dates_held held id = option_map (λ (e : EntryOf). dates_in e.attributes) (object_held held id)

-- its bytes, where they are known: where the object has the same ones in every inventory that stands there
abbrev pub bytes_held : DeclarationOf → Option (List ℕ) → Option (List ℕ)
bytes_held held id = option_and_then (λ (e : EntryOf). e.bytes) (object_held held id)

-- the row of the table of states by which an operation on an object is judged
abbrev pub act_asked : AskedOf → Option Act
act_asked asked = act_by (subject_asked asked)

-- a line of the server's own is for this operation in this state
abbrev pub has_line : List AllowLine → Act → State → Bool
has_line lines act state = list_any (is_line_of act state) lines

abbrev pub dates_told : DatesHeld → Dates
dates_told d = record { initial = d.initial; activation = d.activation; deactivation = d.deactivation; destroy = d.destroy; compromise = d.compromise }

-- a text, if there is one
abbrev pub text_of : {Z : Type 0} → Option (String Z) → Option (List ℕ)
text_of = option_map string_bytes
