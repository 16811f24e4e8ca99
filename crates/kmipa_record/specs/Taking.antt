-- What takes the records of a declaration, one after the other.
use Rattle.std.specs.Prelude.{◌≡◌, ◌⊎◌, ℕ, List}
use Rattle.std.specs.String.{string_bytes}
use Rattle.kmipa_msgs.specs.Messages.{row_of}
use Rattle.kmipa_record.specs.DeclarationRecords.{RecordOf, row, allow, own, entry, aside}
use Rattle.kmipa_record.specs.Declarations.{DeclarationOf, AreDeclared, IsDeclarationWithin, Admits, MayFollow, misplaced_kind}
use Rattle.kmipa_record.specs.Entries.{entry_of}
use Rattle.kmipa_record.specs.Reaches.{ReachesSettings}
use Rattle.kmipa_record.specs.Settings.{MayHave}
use Rattle.kmipa_record.specs.declared.declaration_record.DeclarationRecord.{DeclarationRecord}
use Rattle.kmipa_record.specs.declared.declaration_record.DeclarationRecord.TheVariants.{Row, Allow, Own, Entry, Aside}
use Rattle.kmipa_record.specs.declared.fault.RecordKind.{RecordKind}
use Rattle.kmipa_record.specs.declared.fault.RecordKind.TheVariants as kinds
use Rattle.kmipa_record.specs.declared.declaration_header.DeclarationHeader.{DeclarationHeader}
use Rattle.kmipa_record.specs.declared.reach.Reach.{Reach}
use Rattle.kmipa_record.specs.declared.settings.Settings.{Settings}

-- the record that a value of the program is
abbrev pub record_of : DeclarationRecord → RecordOf
record_of (Row r) = row (row_of r)
record_of (Allow l) = allow l
record_of (Own a) = own a
record_of (Entry e) = entry (entry_of e)
record_of (Aside id) = aside (string_bytes id)

-- each record that a declaration within reach may have is among these
abbrev pub TakesAll : Reach → (RecordOf → Type 0) → Type 0
TakesAll reach takes = (h : DeclarationHeader) (r : RecordOf) → MayHave h.version h.settings → ReachesSettings reach h.settings → Admits reach h r → takes r

-- a record is refused behind what is declared so far: for memory, or because it may not stand there
abbrev pub Refuses : DeclarationOf → RecordOf → RecordKind → Type 0
Refuses declared r kind = (kind ≡ kinds.Memory) ⊎ ((kind ≡ misplaced_kind r) × ¬ (MayFollow declared r))

-- What took the records of these bytes stands for the declaration that they are.
pub record HasTaken {T : Type 0} (reach : Reach) (holds : T → DeclarationOf → Type 0) (settings : Settings) (bytes : List ℕ) (taker : T) : Type 0 where
  pub declared : DeclarationOf
  pub named : declared.settings ≡ settings
  pub found : IsDeclarationWithin reach bytes declared
  pub may : AreDeclared declared
  pub held : holds taker declared
