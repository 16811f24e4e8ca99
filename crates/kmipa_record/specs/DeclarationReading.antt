-- How a declaration is read record by record. Not promised.
use Rattle.std.specs.Prelude.{◌≡◌, ◌⊎◌, ◌%◌, ◌==◌, ◌&&◌, ◌||◌, nat_lt, ℕ, ℤ, pos, negsuc, Bool, true, false, List, [], ◌∷◌, ◌++◌, map, length, Option, Some, None, slice_get, String, Result, MatchResult, All, Any}
use Rattle.std.specs.BTreeMap.{get}
use Rattle.std.specs.BTreeSet.{BTreeSet, contains_text}
use Rattle.std.specs.Global.{Global}
use Rattle.std.specs.Ordering.{nat_cmp}
use Rattle.std.specs.Str.{bytes_eq}
use Rattle.std.specs.String.{string_bytes}
use Rattle.kmipa_record.specs.Reading.{IsReading}
use Rattle.kmipa_ttlv.specs.Tree.{Tree}
use Rattle.kmipa_msgs.specs.Messages.{row_of}
use Rattle.kmipa_record.specs.DeclarationRecords.{RecordOf, SaysRecord, IsFit}
use Rattle.kmipa_record.specs.Declarations.{DeclarationOf, AreDeclared, Admits, Follow, IsHeader, MayFollow, nothing_declared, with_record}
use Rattle.kmipa_record.specs.Hashes.{identifier_hash}
use Rattle.kmipa_record.specs.Entries.{EntryOf, entry_of}
use Rattle.kmipa_record.specs.Settings.{declaration_header}
use Rattle.kmipa_record.specs.Taking.{Refuses}
use Rattle.kmipa_record.specs.declared.fault.RecordKind.{RecordKind}
use Rattle.kmipa_record.specs.declared.fault.RecordKind.TheVariants as kinds
use Rattle.kmipa_record.specs.declared.declaration_header.DeclarationHeader.{DeclarationHeader}
use Rattle.kmipa_record.specs.declared.reach.Reach.{Reach}
use Rattle.kmipa_record.specs.declared.records.Records.{Records}
use Rattle.kmipa_record.specs.declared.settings.Settings.{Settings}

-- a positive multiple of 8
abbrev pub are_whole_bytes : ℤ → Bool
are_whole_bytes (pos bits) = nat_lt 0 bits && (bits % 8 == 0)
are_whole_bytes (negsuc n) = false

pub record SaysFit (item : Tree) (r : RecordOf) : Type 0 where
  pub says : SaysRecord item r
  pub fit : IsFit r

abbrev pub IsRecord : Tree → Type 0
IsRecord item = (r : RecordOf) × SaysFit item r

-- why a record isn't handed over: a declaration with this header may not have it, or it is refused behind what is declared so far
pub data IsRefused (reach : Reach) (h : DeclarationHeader) (declared : DeclarationOf) (r : RecordOf) (kind : RecordKind) : Type 0 where
  inadmissible : ¬ (Admits reach h r) → kind ≡ kinds.Entry → IsRefused reach h declared r kind
  behind : Admits reach h r → Refuses declared r kind → IsRefused reach h declared r kind

-- ---- the records so far

abbrev pub entries_in : Records → List EntryOf
entries_in records = map entry_of records.entries.items

abbrev pub asides_in : Records → List (List ℕ)
asides_in records = map string_bytes records.asides.items

abbrev pub declared_by : Settings → Records → DeclarationOf
declared_by settings records = record {
  settings = settings;
  rows = map row_of records.rows.items;
  allow_lines = records.allow_lines.items;
  own_attributes = records.own_attributes.items;
  entries = entries_in records;
  asides = asides_in records;
}

-- there is no entry, and no identifier is set aside
abbrev pub HasNone : Records → Type 0
HasNone records = (entries_in records ≡ []) × (asides_in records ≡ [])

-- the entry, if there is one, has the identifier
abbrev pub has_id : Option EntryOf → List ℕ → Bool
has_id None id = false
has_id (Some e) id = bytes_eq e.id id

-- the entry at a place is the last of its identifier's hash, or its identifier is among the others
abbrev pub IsFound : Records → ℕ → EntryOf → Type 0
IsFound records place e = (get nat_cmp records.places (identifier_hash e.id) ≡ Some place) ⊎ (contains_text records.others e.id ≡ true)

-- each entry is found, each identifier that is set aside is among the others, and each of the others is that of an entry, or set aside
pub record AreKept (records : Records) : Type 0 where
  pub found : (place : ℕ) (e : EntryOf) → slice_get (entries_in records) place ≡ Some e → IsFound records place e
  pub apart : All (λ (id : List ℕ). contains_text records.others id ≡ true) (asides_in records)
  pub met : (id : List ℕ) → contains_text records.others id ≡ true → Any (λ (e : EntryOf). e.id ≡ id) (entries_in records) ⊎ Any (λ (other : List ℕ). other ≡ id) (asides_in records)

-- the others, which the identifier of the entry at an earlier place joined, if there is one
abbrev pub AreOthers : BTreeSet (String Global) → List EntryOf → Option ℕ → BTreeSet (String Global) → Type 0
AreOthers old entries None new = (id : List ℕ) → contains_text new id ≡ contains_text old id
AreOthers old entries (Some place) new = (id : List ℕ) → contains_text new id ≡ (contains_text old id || has_id (slice_get entries place) id)

-- the records, but for their others
abbrev pub with_others : Records → BTreeSet (String Global) → Records
with_others r others = record { rows = r.rows; allow_lines = r.allow_lines; own_attributes = r.own_attributes; entries = r.entries; asides = r.asides; places = r.places; others = others }

pub record Displaces (old : Records) (earlier : Option ℕ) (result : Result (Unit {0}) RecordKind) (new : Records) : Type 0 where
  pub same : new ≡ with_others old new.others
  pub others : MatchResult result (λ _. AreOthers old.others (entries_in old) earlier new.others) (λ kind. kind ≡ kinds.Memory)

-- a record is put after the others, or refused
pub record Puts (old new : Records) (r : RecordOf) : Type 0 where
  pub kept : AreKept new
  pub follows : (s : Settings) → MayFollow (declared_by s old) r
  pub declared : (s : Settings) → declared_by s new ≡ with_record (declared_by s old) r

abbrev pub Takes : Records → Records → RecordOf → Result (Unit {0}) RecordKind → Type 0
Takes old new r result = MatchResult result (λ _. Puts old new r) (λ kind. (s : Settings) → Refuses (declared_by s old) r kind)

-- the records stand for the declaration
pub record Keeps (records : Records) (declared : DeclarationOf) : Type 0 where
  pub kept : AreKept records
  pub same : declared_by declared.settings records ≡ declared

-- ---- the file so far

-- the header and these records were read of the file, and this is left at this place
pub record IsReadSoFar (reach : Reach) (h : DeclarationHeader) (file : List ℕ) (declared : DeclarationOf) (left : List ℕ) (place : ℕ) : Type 0 where
  pub header : IsHeader reach (declaration_header h) h
  pub items : List Tree
  pub reading : IsReading file (declaration_header h ∷ items) left place
  pub follow : Follow reach h (nothing_declared h.settings) items declared

-- What took the records that were read so far holds a declaration, which may be declared: of each file that begins with what came they
-- are the header and these records.
pub record HasRead {T : Type 0} (reach : Reach) (h : DeclarationHeader) (holds : T → DeclarationOf → Type 0) (came : List ℕ) (taker : T) : Type 0 where
  pub declared : DeclarationOf
  pub named : declared.settings ≡ h.settings
  pub may : AreDeclared declared
  pub held : holds taker declared
  pub read : (after : List ℕ) → IsReadSoFar reach h (came ++ after) declared after (length came)
