-- What is written: files, spelled with zeros for padding.
use Rattle.std.specs.Prelude.{◌≡◌, ◌≤◌, ℕ, List, [], ◌++◌, All, ◌≢◌, IsSome, None}
use Rattle.std.specs.List.{flat_map}
use Rattle.kmipa_ttlv.specs.Tree.{Tree}
use Rattle.kmipa_ttlv.specs.Spelling.{Spells}
use Rattle.kmipa_ttlv.specs.Written.{spelling}
use Rattle.kmipa_ttlv.specs.Written.{Legal}
use Rattle.kmipa_record.specs.Declarations.{DeclarationOf, IsDeclarationWithin}
use Rattle.kmipa_record.specs.Entries.{EntryOf}
use Rattle.kmipa_record.specs.Settings.{plain_settings}
use Rattle.kmipa_record.specs.Marks.{IsCallNumber, MarkOf, mark_item, AreRecorded}
use Rattle.kmipa_record.specs.Transcripts.{IsPlainTranscript}
use Rattle.kmipa_record.specs.Witnesses.{TurnOf, turn_item, version_number, Admits, IsWitness, ArePayloads, AreBirths}
use Rattle.kmipa_record.specs.declared.fault.RecordFault.{RecordFault}
use Rattle.kmipa_record.specs.declared.fault.RecordKind.{RecordKind}
use Rattle.kmipa_record.specs.declared.fault.RecordKind.TheVariants.{Entry, Memory}
use Rattle.kmipa_record.specs.declared.declaration_version.DeclarationVersion.TheVariants as declaration_versions
use Rattle.kmipa_record.specs.declared.reach.Reach.{Reach}
use Rattle.kmipa_record.specs.declared.reach.Reach.TheVariants.{Judged}
use Rattle.kmipa_record.specs.declared.version.Version.{Version}
use Rattle.kmipa_record.specs.declared.version.Version.TheVariants.{Fourth}

-- these bytes were appended, and they are as the word says
pub record Appends (Is : List ℕ → Type 0) (old new : List ℕ) : Type 0 where
  pub appended : List ℕ
  pub after : new ≡ old ++ appended
  pub is : Is appended

-- the spellings of some items with zeros for padding, one after the other
pub record ArePadded (bytes : List ℕ) : Type 0 where
  pub items : List Tree
  pub are : bytes ≡ flat_map spelling items

abbrev pub AreUnowned : List EntryOf → Type 0
AreUnowned = All (λ (e : EntryOf). e.owner ≡ None)

-- version 1 can declare this
pub record IsPlain (declared : DeclarationOf) : Type 0 where
  pub settings : declared.settings ≡ plain_settings declared.settings.unique_names
  pub lines : declared.allow_lines ≡ []
  pub own : declared.own_attributes ≡ []
  pub asides : declared.asides ≡ []
  pub owners : AreUnowned declared.entries

-- The bytes are a declaration of this within reach, padded with zeros, of version 1 where that can declare it.
pub record IsWrittenDeclarationWithin (reach : Reach) (declared : DeclarationOf) (bytes : List ℕ) : Type 0 where
  pub padded : ArePadded bytes
  pub is : IsDeclarationWithin reach bytes declared
  pub lowest : IsPlain declared → is.say.given.version ≡ declaration_versions.First

-- The same of one by which calls are judged.
abbrev pub IsWrittenDeclaration : DeclarationOf → List ℕ → Type 0
IsWrittenDeclaration = IsWrittenDeclarationWithin Judged

-- The bytes are a transcript of these marks, padded with zeros.
pub record IsWrittenTranscript (marks : List MarkOf) (bytes : List ℕ) : Type 0 where
  pub padded : ArePadded bytes
  pub is : IsPlainTranscript bytes marks

-- The bytes are a witness of these turns, padded with zeros, in the lowest version that has such turns.
pub record IsWrittenWitness (turns : List TurnOf) (bytes : List ℕ) : Type 0 where
  pub padded : ArePadded bytes
  pub is : IsWitness bytes turns
  pub lowest : (other : Version) → All (Admits other) turns → version_number is.version ≤ version_number other

-- Why no file is written: memory ran out, or no bytes are such a file.
pub data Unwritten (Is : List ℕ → Type 0) (f : RecordFault) : Type 0 where
  no_memory : f.kind ≡ Memory → Unwritten Is f
  no_file : f.offset ≡ 0 → f.kind ≡ Entry → ((bytes : List ℕ) → ¬ (Is bytes)) → Unwritten Is f

-- ---- item by item; not promised

-- the item's spelling was appended
pub record Adds (item : Tree) (old new : List ℕ) : Type 0 where
  pub after : new ≡ old ++ spelling item
  pub spelled : Spells item (spelling item)

-- these items' spellings were appended
pub record AddsAll (items : List Tree) (old new : List ℕ) : Type 0 where
  pub after : new ≡ old ++ flat_map spelling items
  pub spelled : All (λ item. Spells item (spelling item)) items

-- memory ran out, or what is to be written is refused
pub data Refused (Is : Type 0) (kind : RecordKind) : Type 0 where
  starved : kind ≡ Memory → Refused Is kind
  refused : kind ≡ Entry → ¬ Is → Refused Is kind

-- marks that can be written
pub record AreWritable (marks : List MarkOf) : Type 0 where
  pub recorded : AreRecorded marks
  pub legal : All (λ mark. Legal 16 (mark_item mark)) marks

-- a turn that can be written
pub record IsWritable (turn : TurnOf) : Type 0 where
  pub number : IsCallNumber turn.call
  pub payloads : ArePayloads turn.fills
  pub attributes : AreBirths turn.births
  pub legal : Legal 16 (turn_item turn)

-- a version that has such turns, whatever their fills and births are
pub record Serves (version : Version) (turn : TurnOf) : Type 0 where
  pub answered : IsSome turn.answer → 2 ≤ version_number version
  pub ordered : turn.places ≢ [] → 3 ≤ version_number version
  pub timed : IsSome turn.moment → version ≡ Fourth
  pub born : turn.births ≢ [] → version ≡ Fourth
  pub aside : turn.asides ≢ [] → version ≡ Fourth

-- the lowest such version
pub record IsLowest (version : Version) (turns : List TurnOf) : Type 0 where
  pub serves : All (Serves version) turns
  pub least : (other : Version) → All (Serves other) turns → version_number version ≤ version_number other
