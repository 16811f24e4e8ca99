-- How a declaration is written. Not promised: `Writing` says what is written.
use Rattle.std.specs.Prelude.{◌≡◌, ◌≢◌, ℕ, List, [], ◌++◌, map, All, AllPairs, None}
use Rattle.std.specs.BTreeSet.{BTreeSet, contains_text}
use Rattle.std.specs.Global.{Global}
use Rattle.std.specs.List.{list_any}
use Rattle.std.specs.Prelude.{String}
use Rattle.std.specs.Str.{bytes_eq}
use Rattle.kmipa_ttlv.specs.Tree.{Tree}
use Rattle.kmipa_ttlv.specs.Written.{Legal}
use Rattle.kmipa_object.specs.declared.allow.AllowLine.{AllowLine}
use Rattle.kmipa_attrs.specs.Names.{HasNoRepeats}
use Rattle.kmipa_attrs.specs.Sets.{Attributes}
use Rattle.kmipa_record.specs.DeclarationRecords.{row_item, aside_item}
use Rattle.kmipa_record.specs.Declarations.{DeclarationOf}
use Rattle.kmipa_record.specs.Entries.{EntryOf, IsDeclarable, written_entry}
use Rattle.kmipa_record.specs.Lines.{allow_line_item, IsMovable, AreOfOneCell, own_line_item}
use Rattle.kmipa_record.specs.Reaches.{ReachesSettings, ReachesAsides}
use Rattle.kmipa_record.specs.Settings.{IsTolerance}
use Rattle.kmipa_record.specs.Writing.{IsPlain}
use Rattle.kmipa_record.specs.declared.declaration_header.DeclarationHeader.{DeclarationHeader}
use Rattle.kmipa_record.specs.declared.declaration_version.DeclarationVersion.TheVariants.{First}
use Rattle.kmipa_record.specs.declared.own_attribute.OwnAttribute.{OwnAttribute}
use Rattle.kmipa_record.specs.declared.reach.Reach.{Reach}

-- attributes that some record of an entry says: each name once, and neither Object Type nor State
pub record AreSayable (a : Attributes) : Type 0 where
  pub names : HasNoRepeats a.names
  pub no_type : a.object_type ≡ None
  pub no_state : a.state ≡ None

-- an entry that may stand in a declaration, whatever its length
pub record MayStand (e : EntryOf) : Type 0 where
  pub declarable : IsDeclarable e
  pub sayable : AreSayable e.attributes

-- lines that may stand in one declaration
pub record AreLines (lines : List AllowLine) : Type 0 where
  pub each : All IsMovable lines
  pub distinct : AllPairs (λ (a b : AllowLine). ¬ (AreOfOneCell a b)) lines

-- attributes of own lines that may stand in one declaration
abbrev pub AreOwn : List OwnAttribute → Type 0
AreOwn = AllPairs (λ (a b : OwnAttribute). a ≢ b)

abbrev pub AreDistinct : List (List ℕ) → Type 0
AreDistinct = AllPairs (λ (a b : List ℕ). a ≢ b)

-- the identifiers of entries
abbrev pub ids_of : List EntryOf → List (List ℕ)
ids_of = map (λ (e : EntryOf). e.id)

-- entries and identifiers that are set aside, which may stand in one declaration
pub record MayStandTogether (entries : List EntryOf) (asides : List (List ℕ)) : Type 0 where
  pub each : All MayStand entries
  pub distinct : AreDistinct (ids_of entries ++ asides)

-- settings that may stand in a declaration within reach, and the identifiers that it sets aside by them
pub record HasFitSettings (reach : Reach) (d : DeclarationOf) : Type 0 where
  pub tolerance : IsTolerance d.settings.tolerance
  pub reached : ReachesSettings reach d.settings
  pub aside : d.asides ≢ [] → ReachesAsides reach d.settings

-- what may be declared within reach, whatever the lengths of its records
pub record MayBeDeclared (reach : Reach) (d : DeclarationOf) : Type 0 where
  pub settings : HasFitSettings reach d
  pub lines : AreLines d.allow_lines
  pub own : AreOwn d.own_attributes
  pub together : MayStandTogether d.entries d.asides

-- what can be written
pub record IsWritableDeclaration (reach : Reach) (d : DeclarationOf) : Type 0 where
  pub may : MayBeDeclared reach d
  pub entries : All (λ (e : EntryOf). Legal 16 (written_entry e)) d.entries
  pub asides : All (λ (id : List ℕ). Legal 16 (aside_item id)) d.asides

-- the header of the lowest version that serves
pub record IsLowestHeader (h : DeclarationHeader) (d : DeclarationOf) : Type 0 where
  pub settings : h.settings ≡ d.settings
  pub serves : h.version ≡ First → IsPlain d
  pub lowest : IsPlain d → h.version ≡ First

abbrev pub written_records : DeclarationOf → List Tree
written_records d = map row_item d.rows ++ (map allow_line_item d.allow_lines ++ (map own_line_item d.own_attributes ++ (map written_entry d.entries ++ map aside_item d.asides)))

-- these identifiers were put into the set, none of them twice
pub record AreNoted (set : BTreeSet (String Global)) (ids : List (List ℕ)) : Type 0 where
  pub noted : (id : List ℕ) → contains_text set id ≡ list_any (bytes_eq id) ids
  pub distinct : AreDistinct ids
