-- Declarations: which bytes are one, and what is the first fault of those that are none.
use Rattle.std.specs.Prelude.{◌≡◌, ◌≢◌, ℕ, List, [], ◌∷◌, ◌++◌, map, All, AllPairs, IsSome}
use Rattle.std.specs.String.{string_bytes}
use Rattle.kmipa_ttlv.specs.Tree.{Tree}
use Rattle.kmipa_ttlv.specs.Stream.{Begins}
use Rattle.kmipa_object.specs.declared.allow.AllowLine.{AllowLine}
use Rattle.kmipa_msgs.specs.Messages.{RowOf, row_of}
use Rattle.kmipa_record.specs.DeclarationRecords.{RecordOf, row, allow, own, entry, aside, SaysRecord, IsFit}
use Rattle.kmipa_record.specs.Entries.{EntryOf, entry_of, IsDeclarable}
use Rattle.kmipa_record.specs.Files.{FirstFault, IsRightUpTo}
use Rattle.kmipa_record.specs.Lines.{AreOfOneCell}
use Rattle.kmipa_record.specs.Reaches.{ReachesSettings, ReachesAsides}
use Rattle.kmipa_record.specs.Settings.{MayHave, declaration_header}
use Rattle.kmipa_record.specs.declared.declaration.Declaration.{Declaration}
use Rattle.kmipa_record.specs.declared.declaration_version.DeclarationVersion.TheVariants.{Second}
use Rattle.kmipa_record.specs.declared.fault.RecordKind.{RecordKind}
use Rattle.kmipa_record.specs.declared.fault.RecordKind.TheVariants.{Header, Entry, Identifier}
use Rattle.kmipa_record.specs.declared.declaration_header.DeclarationHeader.{DeclarationHeader}
use Rattle.kmipa_record.specs.declared.own_attribute.OwnAttribute.{OwnAttribute}
use Rattle.kmipa_record.specs.declared.reach.Reach.{Reach}
use Rattle.kmipa_record.specs.declared.reach.Reach.TheVariants.{Judged}
use Rattle.kmipa_record.specs.declared.settings.Settings.{Settings}

pub record DeclarationOf : Type 0 where
  pub settings : Settings
  pub rows : List RowOf
  pub allow_lines : List AllowLine
  pub own_attributes : List OwnAttribute
  pub entries : List EntryOf
  pub asides : List (List ℕ)

-- what a declaration of the program declares
abbrev pub declaration_of : Declaration → DeclarationOf
declaration_of d = record {
  settings = d.settings;
  rows = map row_of d.rows.items;
  allow_lines = d.allow_lines.items;
  own_attributes = d.own_attributes.items;
  entries = map entry_of d.entries.items;
  asides = map string_bytes d.asides.items;
}

-- The objects of a declaration: each may be declared, and no identifier stands twice.
pub record AreDeclared (declared : DeclarationOf) : Type 0 where
  pub each : All IsDeclarable declared.entries
  pub distinct : AllPairs (λ (a b : EntryOf). a.id ≢ b.id) declared.entries

-- ---- the records, one behind the other

-- without records, and with one more
abbrev pub nothing_declared : Settings → DeclarationOf
nothing_declared s = record { settings = s; rows = []; allow_lines = []; own_attributes = []; entries = []; asides = [] }

abbrev pub rows_with : List RowOf → RecordOf → List RowOf
rows_with rows (row r) = rows ++ r ∷ []
rows_with rows _ = rows

abbrev pub lines_with : List AllowLine → RecordOf → List AllowLine
lines_with lines (allow l) = lines ++ l ∷ []
lines_with lines _ = lines

abbrev pub own_with : List OwnAttribute → RecordOf → List OwnAttribute
own_with attributes (own a) = attributes ++ a ∷ []
own_with attributes _ = attributes

abbrev pub entries_with : List EntryOf → RecordOf → List EntryOf
entries_with entries (entry e) = entries ++ e ∷ []
entries_with entries _ = entries

abbrev pub asides_with : List (List ℕ) → RecordOf → List (List ℕ)
asides_with asides (aside id) = asides ++ id ∷ []
asides_with asides _ = asides

abbrev pub with_record : DeclarationOf → RecordOf → DeclarationOf
with_record d r = record {
  settings = d.settings;
  rows = rows_with d.rows r;
  allow_lines = lines_with d.allow_lines r;
  own_attributes = own_with d.own_attributes r;
  entries = entries_with d.entries r;
  asides = asides_with d.asides r;
}

abbrev pub HasNoObjects : DeclarationOf → Type 0
HasNoObjects d = (d.entries ≡ []) × (d.asides ≡ [])

-- no line is for the cell of this one
abbrev pub IsNewCell : List AllowLine → AllowLine → Type 0
IsNewCell lines l = All (λ (other : AllowLine). ¬ (AreOfOneCell other l)) lines

abbrev pub IsNewAttribute : List OwnAttribute → OwnAttribute → Type 0
IsNewAttribute attributes a = All (λ (other : OwnAttribute). other ≢ a) attributes

-- no object has the identifier, and it isn't set aside
abbrev pub IsNewIdentifier : DeclarationOf → List ℕ → Type 0
IsNewIdentifier d id = All (λ (other : EntryOf). other.id ≢ id) d.entries × All (λ (other : List ℕ). other ≢ id) d.asides

-- A record may stand behind what is declared so far: rows stand ahead of allow lines, these ahead of own lines, and these ahead of entries
-- and identifiers that are set aside, which stand in any order. No cell, no own attribute and no identifier is named twice.
abbrev pub MayFollow : DeclarationOf → RecordOf → Type 0
MayFollow d (row r) = (d.allow_lines ≡ []) × (d.own_attributes ≡ []) × HasNoObjects d
MayFollow d (allow l) = (d.own_attributes ≡ []) × HasNoObjects d × IsNewCell d.allow_lines l
MayFollow d (own a) = HasNoObjects d × IsNewAttribute d.own_attributes a
MayFollow d (entry e) = IsNewIdentifier d e.id
MayFollow d (aside id) = IsNewIdentifier d id

-- A declaration with this header may have the record within reach: lines and owners only in version 2, and what is set aside only where it
-- may set identifiers aside.
abbrev pub Admits : Reach → DeclarationHeader → RecordOf → Type 0
Admits reach h (row r) = Unit {0}
Admits reach h (allow l) = h.version ≡ Second
Admits reach h (own a) = h.version ≡ Second
Admits reach h (entry e) = IsSome e.owner → h.version ≡ Second
Admits reach h (aside id) = ReachesAsides reach h.settings

-- ---- the items

-- the item is this header, within reach
pub record IsHeader (reach : Reach) (item : Tree) (h : DeclarationHeader) : Type 0 where
  pub is : item ≡ declaration_header h
  pub may : MayHave h.version h.settings
  pub reached : ReachesSettings reach h.settings

-- the item is this record, which a declaration with the header may have within reach
pub record IsRecordUnder (reach : Reach) (h : DeclarationHeader) (item : Tree) (r : RecordOf) : Type 0 where
  pub says : SaysRecord item r
  pub fit : IsFit r
  pub admitted : Admits reach h r

-- Each item is a record that may stand behind what is declared ahead of it; behind the last one this is declared.
abbrev pub Follow : Reach → DeclarationHeader → DeclarationOf → List Tree → DeclarationOf → Type 0
Follow reach h ahead [] declared = ahead ≡ declared
Follow reach h ahead (item ∷ items) declared = (r : RecordOf) × IsRecordUnder reach h item r × MayFollow ahead r × Follow reach h (with_record ahead r) items declared

-- the items of a declaration of this: a header, and records that follow it
pub record SayDeclaration (reach : Reach) (header : Tree) (records : List Tree) (declared : DeclarationOf) : Type 0 where
  pub given : DeclarationHeader
  pub header_is : IsHeader reach header given
  pub follow : Follow reach given (nothing_declared given.settings) records declared

-- The bytes are a declaration of this, within reach.
pub record IsDeclarationWithin (reach : Reach) (bytes : List ℕ) (declared : DeclarationOf) : Type 0 where
  pub header : Tree
  pub records : List Tree
  pub spelled : Begins (header ∷ records) bytes []
  pub say : SayDeclaration reach header records declared

-- ---- the first fault

-- no item is faulty at the front of a declaration: there is none, or they say what is declared so far
abbrev pub AreRightInDeclaration : Reach → List Tree → Type 0
AreRightInDeclaration reach [] = Unit {0}
AreRightInDeclaration reach (header ∷ records) = (declared : DeclarationOf) × SayDeclaration reach header records declared

-- what is wrong with a record that may not follow
abbrev pub misplaced_kind : RecordOf → RecordKind
misplaced_kind (entry e) = Identifier
misplaced_kind (aside id) = Identifier
misplaced_kind _ = Entry

-- the first test that a record fails behind what is declared so far: it is a record that a declaration with this header may have, and may follow
pub data RecordItemFault (reach : Reach) (h : DeclarationHeader) (declared : DeclarationOf) (item : Tree) (kind : RecordKind) : Type 0 where
  no_record : ((r : RecordOf) → ¬ (IsRecordUnder reach h item r)) → kind ≡ Entry → RecordItemFault reach h declared item kind
  misplaced : (r : RecordOf) → IsRecordUnder reach h item r → ¬ (MayFollow declared r) → kind ≡ misplaced_kind r → RecordItemFault reach h declared item kind

abbrev pub DeclarationItemFault : Reach → List Tree → Tree → RecordKind → Type 0
DeclarationItemFault reach [] item kind = ((h : DeclarationHeader) → ¬ (IsHeader reach item h)) × (kind ≡ Header)
DeclarationItemFault reach (header ∷ records) item kind = (declared : DeclarationOf) × (s : SayDeclaration reach header records declared) × RecordItemFault reach s.given declared item kind

abbrev pub DeclarationEndFault : List ℕ → List Tree → ℕ → RecordKind → Type 0
DeclarationEndFault bytes [] offset kind = (offset ≡ 0) × (kind ≡ Header)
DeclarationEndFault bytes (header ∷ records) offset kind = ⊥

abbrev pub DeclarationFaultWithin : Reach → List ℕ → ℕ → RecordKind → Type 0
DeclarationFaultWithin reach = FirstFault (AreRightInDeclaration reach) (DeclarationItemFault reach) DeclarationEndFault

abbrev pub IsDeclarationUpToWithin : Reach → List ℕ → ℕ → Type 0
IsDeclarationUpToWithin reach = IsRightUpTo (AreRightInDeclaration reach)

-- ---- what is judged today

-- The bytes are a declaration of this, by which calls are judged.
abbrev pub IsDeclaration : List ℕ → DeclarationOf → Type 0
IsDeclaration = IsDeclarationWithin Judged

abbrev pub DeclarationFault : List ℕ → ℕ → RecordKind → Type 0
DeclarationFault = DeclarationFaultWithin Judged

abbrev pub IsDeclarationUpTo : List ℕ → ℕ → Type 0
IsDeclarationUpTo = IsDeclarationUpToWithin Judged
