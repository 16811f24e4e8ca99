-- What a server was asked for between two segments, held against what its answers leave by then.
use Rattle.std.specs.Prelude.{◌≡◌, ◌≢◌, ◌==◌, ◌||◌, ℕ, ℤ, Bool, true, false, not, bytes_eq, List, [], ◌∷◌, codes, length, slice_get, Option, Some, None, is_none, Result, Ok, Err}
use Rattle.std.specs.Ordering.{int_eq}
use Rattle.std.specs.Fmt.{decimal}
use Rattle.std.specs.String.{string_bytes}
use Rattle.kmipa_record.specs.Entries.{EntryOf}
use Rattle.kmipa_record.specs.Declarations.{DeclarationOf, DeclarationFault, IsDeclaration, IsDeclarationUpTo}
use Rattle.kmipa_record.specs.Files.{Tells}
use Rattle.kmipa_record.specs.declared.fault.RecordFault.{RecordFault}
use Rattle.kmipa_ops.specs.GetAttributes.{has_stranger}
use Rattle.kmipa_ops.specs.Objects.{clash, same_type}
use Rattle.kmipa_check.specs.declared.auditing.AuditFault.TheVariants as audit
use Rattle.kmipa_runs.specs.Lines.{line, PrintsFault}
use Rattle.kmipa_runs.specs.Shown.{quoted}
use Rattle.kmipa_jobs.specs.declared.status.Status.{Status}
use Rattle.kmipa_jobs.specs.declared.status.Status.TheVariants as status
use Rattle.kmipa_segments.specs.declared.parts.Part.{Part}
use Rattle.kmipa_segments.specs.declared.parts.Part.TheVariants as part
use Rattle.kmipa_segments.specs.declared.comparing.Difference.{Difference}
use Rattle.kmipa_segments.specs.declared.comparing.Difference.TheVariants.{Untold, Unleft, Other}
use Rattle.kmipa_segments.specs.declared.comparing.Compared.{Compared}

-- ---- two entries of one object

-- both are there, and differ
abbrev pub clash_bytes : Option (List ℕ) → Option (List ℕ) → Bool
clash_bytes a b = clash bytes_eq a b

-- one of the two is there alone, or they differ
abbrev pub is_other_date : Option ℤ → Option ℤ → Bool
is_other_date None None = false
is_other_date None (Some b) = true
is_other_date (Some a) None = true
is_other_date (Some a) (Some b) = not (int_eq a b)

-- What is left of an object and what is told of it differ in this part. Names come in any order. A server may keep an algorithm, a length, a mask, an
-- Initial Date and the bytes to itself, and of some objects they aren't known: these differ where both sides have them. The other dates are there or
-- not.
abbrev pub is_apart : Part → EntryOf → EntryOf → Bool
is_apart part.ObjectType a b = not (same_type a.kind b.kind)
is_apart part.Name a b = has_stranger a.attributes.names b.attributes.names || has_stranger b.attributes.names a.attributes.names
is_apart part.CryptographicAlgorithm a b = clash (λ (x y : ℕ). x == y) a.attributes.algorithm b.attributes.algorithm
is_apart part.CryptographicLength a b = clash int_eq a.attributes.length b.attributes.length
is_apart part.CryptographicUsageMask a b = clash int_eq a.attributes.mask b.attributes.mask
is_apart part.InitialDate a b = clash int_eq a.attributes.initial b.attributes.initial
is_apart part.ActivationDate a b = is_other_date a.attributes.activation b.attributes.activation
is_apart part.DeactivationDate a b = is_other_date a.attributes.deactivation b.attributes.deactivation
is_apart part.DestroyDate a b = is_other_date a.attributes.destroy b.attributes.destroy
is_apart part.CompromiseDate a b = is_other_date a.attributes.compromise b.attributes.compromise
is_apart part.KeyMaterial a b = clash_bytes a.bytes b.bytes

-- they differ in no part
abbrev pub IsAlike : EntryOf → EntryOf → Type 0
IsAlike a b = (p : Part) → is_apart p a b ≡ false

-- ---- two declarations

-- an object of this identifier stands among these
abbrev pub HasObject : List EntryOf → List ℕ → Type 0
HasObject entries id = (place : ℕ) × (e : EntryOf) × (slice_get entries place ≡ Some e) × (e.id ≡ id)

-- no object of this identifier does
abbrev pub HasNone : List EntryOf → List ℕ → Type 0
HasNone entries id = (place : ℕ) (e : EntryOf) → slice_get entries place ≡ Some e → e.id ≢ id

-- without a Destroy Date
abbrev pub IsLive : EntryOf → Type 0
IsLive e = is_none e.attributes.destroy ≡ true

-- the object of this entry stands among these, and alike
abbrev pub HasAlike : List EntryOf → EntryOf → Type 0
HasAlike entries b = (place : ℕ) × (a : EntryOf) × (slice_get entries place ≡ Some a) × (a.id ≡ b.id) × IsAlike a b

-- each object that is told is left, and alike
abbrev pub AreKnown : List EntryOf → List EntryOf → Type 0
AreKnown left told = (place : ℕ) (b : EntryOf) → slice_get told place ≡ Some b → HasAlike left b

-- each live object that is left is told
abbrev pub AreTold : List EntryOf → List EntryOf → Type 0
AreTold left told = (place : ℕ) (a : EntryOf) → slice_get left place ≡ Some a → IsLive a → HasObject told a.id

-- What is told fits what is left. A server may say nothing of an object that it destroyed.
pub record Fit (left told : List EntryOf) : Type 0 where
  pub known : AreKnown left told
  pub live : AreTold left told

abbrev pub Fits : DeclarationOf → DeclarationOf → Type 0
Fits left told = Fit left.entries told.entries

-- a live object is left that isn't told
pub record IsUntold (left told : List EntryOf) (id : List ℕ) : Type 0 where
  pub place : ℕ
  pub object : EntryOf
  pub there : slice_get left place ≡ Some object
  pub its : object.id ≡ id
  pub alive : IsLive object
  pub nowhere : HasNone told id

-- an object is told that isn't left
pub record IsUnleft (left told : List EntryOf) (id : List ℕ) : Type 0 where
  pub here : HasObject told id
  pub nowhere : HasNone left id

-- an object is left and told, and differs in this part
pub record IsOther (left told : List EntryOf) (id : List ℕ) (p : Part) : Type 0 where
  pub at : ℕ
  pub a : EntryOf
  pub left_there : slice_get left at ≡ Some a
  pub left_its : a.id ≡ id
  pub place : ℕ
  pub b : EntryOf
  pub told_there : slice_get told place ≡ Some b
  pub told_its : b.id ≡ id
  pub apart : is_apart p a b ≡ true

abbrev pub DiffersAmong : List EntryOf → List EntryOf → Difference → Type 0
DiffersAmong left told (Untold id) = IsUntold left told (string_bytes id)
DiffersAmong left told (Unleft id) = IsUnleft left told (string_bytes id)
DiffersAmong left told (Other id p) = IsOther left told (string_bytes id) p

-- what a comparison answers: none where what is told fits
abbrev pub ComparesAmong : List EntryOf → List EntryOf → Option Difference → Type 0
ComparesAmong left told None = Fit left told
ComparesAmong left told (Some difference) = DiffersAmong left told difference

abbrev pub Compares : DeclarationOf → DeclarationOf → Option Difference → Type 0
Compares left told difference = ComparesAmong left.entries told.entries difference

-- ---- how it is found; not promised

-- the object of this identifier among these; or there is none
abbrev pub IsFound : List EntryOf → List ℕ → Option EntryOf → Type 0
IsFound entries id None = HasNone entries id
IsFound entries id (Some a) = (place : ℕ) × (slice_get entries place ≡ Some a) × (a.id ≡ id)

-- the object at this place has this identifier
abbrev pub IsOf : List EntryOf → ℕ → List ℕ → Type 0
IsOf entries place id = (a : EntryOf) × (slice_get entries place ≡ Some a) × (a.id ≡ id)

-- the object of this entry is among these, and differs in this part
abbrev pub HasApart : List EntryOf → EntryOf → Part → Type 0
HasApart entries b p = (place : ℕ) × (a : EntryOf) × (slice_get entries place ≡ Some a) × (a.id ≡ b.id) × (is_apart p a b ≡ true)

-- how an object that is told differs from those that are left
abbrev pub IsMisfit : List EntryOf → EntryOf → Difference → Type 0
IsMisfit left b (Untold id) = ⊥
IsMisfit left b (Unleft id) = (string_bytes id ≡ b.id) × HasNone left b.id
IsMisfit left b (Other id p) = (string_bytes id ≡ b.id) × HasApart left b p

-- an object is live and not told; or, if it is live, it is told
abbrev pub IsToldOrNot : EntryOf → List EntryOf → Bool → Type 0
IsToldOrNot a told true = IsLive a × HasNone told a.id
IsToldOrNot a told false = IsLive a → HasObject told a.id

-- ---- what is compared

-- the bytes are a declaration of so many objects, and this comes of comparing it
pub record AreCompared (left : DeclarationOf) (compared : Compared) (d : List ℕ) : Type 0 where
  pub told : DeclarationOf
  pub declaration : IsDeclaration d told
  pub count : compared.entries ≡ length told.entries
  pub compares : Compares left told compared.difference

-- what comparing a file answers: or its first fault
abbrev pub ComparesFile : DeclarationOf → List ℕ → Bool → Result Compared RecordFault → Type 0
ComparesFile left d failed (Ok compared) = AreCompared left compared d
ComparesFile left d failed (Err fault) = Tells DeclarationFault IsDeclarationUpTo d failed fault

-- ---- what is printed

abbrev pub part_text : Part → List ℕ
part_text part.ObjectType = codes "Object Type"
part_text part.Name = codes "Name"
part_text part.CryptographicAlgorithm = codes "Cryptographic Algorithm"
part_text part.CryptographicLength = codes "Cryptographic Length"
part_text part.CryptographicUsageMask = codes "Cryptographic Usage Mask"
part_text part.InitialDate = codes "Initial Date"
part_text part.ActivationDate = codes "Activation Date"
part_text part.DeactivationDate = codes "Deactivation Date"
part_text part.DestroyDate = codes "Destroy Date"
part_text part.CompromiseDate = codes "Compromise Date"
part_text part.KeyMaterial = codes "Key Material"

abbrev pub difference_text : Difference → List ℕ
difference_text (Untold id) = line (codes "differs: object " ∷ quoted (string_bytes id) ∷ codes " is left and not told" ∷ [])
difference_text (Unleft id) = line (codes "differs: object " ∷ quoted (string_bytes id) ∷ codes " is told and not left" ∷ [])
difference_text (Other id p) = line (codes "differs: object " ∷ quoted (string_bytes id) ∷ codes " in " ∷ part_text p ∷ [])

-- the line of what a comparison answers, with how many objects are told, and its status
abbrev pub compared_text : ℕ → Option Difference → List ℕ
compared_text count None = line (codes "fits: " ∷ decimal count ∷ codes " entries" ∷ [])
compared_text count (Some difference) = difference_text difference

abbrev pub compared_status : Option Difference → Status
compared_status None = status.Done
compared_status (Some difference) = status.No

abbrev pub PrintsFitting : ℕ → Status → List ℕ → Type 0
PrintsFitting count said lines = (said ≡ status.Done) × (lines ≡ compared_text count None)

abbrev pub PrintsDifference : Difference → Status → List ℕ → Type 0
PrintsDifference difference said lines = (said ≡ status.No) × (lines ≡ difference_text difference)

abbrev pub PrintsCompared : Result Compared RecordFault → Status → List ℕ → Type 0
PrintsCompared (Ok compared) said lines = (said ≡ compared_status compared.difference) × (lines ≡ compared_text compared.entries compared.difference)
PrintsCompared (Err fault) said lines = PrintsFault (audit.Declaration fault) said lines
