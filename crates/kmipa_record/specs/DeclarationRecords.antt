-- The records of a declaration: rows, allow lines, own lines, entries, and identifiers that are set aside.
use Rattle.std.specs.Prelude.{◌≡◌, ℕ, List}
use Rattle.kmipa_ttlv.specs.Tree.{Tree, structure, scalar, none, more, enumeration, text}
use Rattle.kmipa_attrs.specs.Tags.{result_reason, unique_identifier}
use Rattle.kmipa_object.specs.declared.allow.AllowLine.{AllowLine}
use Rattle.kmipa_msgs.specs.Messages.{RowOf}
use Rattle.kmipa_msgs.specs.Numbers.{cause_number}
use Rattle.kmipa_record.specs.Entries.{EntryOf, SaysEntry, IsDeclarable}
use Rattle.kmipa_record.specs.Lines.{allow_line_item, IsMovable, own_line_item}
use Rattle.kmipa_record.specs.Tags.{row_tag, cause_tag, aside_entry_tag}
use Rattle.kmipa_record.specs.declared.own_attribute.OwnAttribute.{OwnAttribute}

-- the item that is the row's record: exactly these children, in this order
abbrev pub row_item : RowOf → Tree
row_item r = structure row_tag (more (scalar result_reason (enumeration r.reason)) (more (scalar cause_tag (enumeration (cause_number r.cause))) none))

-- the item that is the record of an identifier that is set aside
abbrev pub aside_item : List ℕ → Tree
aside_item id = structure aside_entry_tag (more (scalar unique_identifier (text id)) none)

-- what a record of a declaration declares
pub data RecordOf : Type 0 where
  row : RowOf → RecordOf
  allow : AllowLine → RecordOf
  own : OwnAttribute → RecordOf
  entry : EntryOf → RecordOf
  aside : List ℕ → RecordOf

abbrev pub SaysRecord : Tree → RecordOf → Type 0
SaysRecord item (row r) = item ≡ row_item r
SaysRecord item (allow l) = item ≡ allow_line_item l
SaysRecord item (own a) = item ≡ own_line_item a
SaysRecord item (entry e) = SaysEntry item e
SaysRecord item (aside id) = item ≡ aside_item id

-- a line that may move the table's word, an entry that may be declared, or another record
abbrev pub IsFit : RecordOf → Type 0
IsFit (row r) = Unit {0}
IsFit (allow l) = IsMovable l
IsFit (own a) = Unit {0}
IsFit (entry e) = IsDeclarable e
IsFit (aside id) = Unit {0}
