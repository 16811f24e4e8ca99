-- How a file is read item by item.
use Rattle.std.specs.Prelude.{◌≡◌, ◌≤◌, ◌<◌, ℕ, ◌+◌, List, [], ◌++◌, length, Bool, IsTrue, None}
use Rattle.kmipa_ttlv.specs.Tree.{Tree}
use Rattle.kmipa_ttlv.specs.Spelling.{Spells}
use Rattle.kmipa_ttlv.specs.Flaw.{OuterFlaw}
use Rattle.kmipa_ttlv.specs.Stream.{capped, IsSplit}
use Rattle.kmipa_ttlv.specs.declared.fault.FaultKind.{FaultKind}
use Rattle.kmipa_record.specs.Kinds.{ByCause}
use Rattle.kmipa_record.specs.declared.fault.RecordFault.{RecordFault}
use Rattle.kmipa_ttlv.specs.declared.fault.FaultKind.TheVariants as flaw
use Rattle.kmipa_record.specs.declared.fault.RecordKind.{RecordKind}
use Rattle.kmipa_record.specs.declared.fault.RecordKind.TheVariants as kinds
use Rattle.kmipa_record.specs.declared.fault.RecordKind.TheVariants.{Ttlv, Header}
use Rattle.kmipa_record.specs.declared.record.Next.{Next}
use Rattle.kmipa_record.specs.declared.record.Next.TheVariants.{End, Other, Record}

-- the header and the items that were read of a file, which has this left at this place
abbrev pub IsReading : List ℕ → List Tree → List ℕ → ℕ → Type 0
IsReading file given left place = IsSplit file given left place None

-- the item was at the front of what was left, and the rest is left after it
pub record Takes (item : Tree) (left after : List ℕ) (place place' : ℕ) : Type 0 where
  pub front : List ℕ
  pub spelled : Spells item front
  pub consumed : left ≡ front ++ after
  pub taken : place' ≡ place + length front
  pub small : place' ≤ 0x100_0000_0000

-- ---- how its reader goes on, not promised: the readers' contracts stand in the words of the files

-- a fault of a read, as one of a file
abbrev pub record_kind : FaultKind → RecordKind
record_kind flaw.Device = kinds.Device
record_kind flaw.Memory = kinds.Memory
record_kind flaw.Truncated = Ttlv flaw.Truncated
record_kind flaw.UnknownType = Ttlv flaw.UnknownType
record_kind flaw.BadLength = Ttlv flaw.BadLength
record_kind flaw.BadBoolean = Ttlv flaw.BadBoolean
record_kind flaw.BadText = Ttlv flaw.BadText
record_kind flaw.Overrun = Ttlv flaw.Overrun
record_kind flaw.TooDeep = Ttlv flaw.TooDeep
record_kind flaw.TooLong = Ttlv flaw.TooLong

-- the fault is the flaw of the rest at this place, which is more than nothing
pub record TellsFlawOf (place : ℕ) (rest : List ℕ) (f : RecordFault) : Type 0 where
  pub some : 0 < length rest
  pub from : ℕ
  pub flaw : FaultKind
  pub wrong : OuterFlaw rest from flaw
  pub placed : f.offset ≡ capped (place + from)
  pub kind_is : f.kind ≡ Ttlv flaw

abbrev pub ReadFails : ℕ → List ℕ → Bool → RecordFault → Type 0
ReadFails place left failed f =
    ByCause f.kind (IsTrue failed × (f.offset ≡ place)) (f.offset ≡ place) (TellsFlawOf place left f)

-- the same of an item that says this
abbrev pub TakesSaid : {T : Type 0} → (Tree → T → Type 0) → List ℕ → List ℕ → ℕ → ℕ → T → Type 0
TakesSaid says left after place place' x = (item : Tree) × Takes item left after place place' × says item x

abbrev pub NextIs : {T : Type 0} → (Tree → T → Type 0) → (Tree → Type 0) → List ℕ → List ℕ → ℕ → ℕ → Bool → Next T → Type 0
NextIs says is_record left after place place' ended End = (left ≡ after) × (place' ≡ place) × IsTrue ended
NextIs says is_record left after place place' ended Other = (item : Tree) × Takes item left after place place' × ¬ (is_record item)
NextIs says is_record left after place place' ended (Record x) = TakesSaid says left after place place' x

-- what is wrong with the header, where this rest is left
pub data HeaderFault (is_header : Tree → Type 0) (place : ℕ) (rest : List ℕ) (f : RecordFault) : Type 0 where
  torn : TellsFlawOf place rest f → HeaderFault is_header place rest f
  absent : rest ≡ [] → f.offset ≡ place → f.kind ≡ Header → HeaderFault is_header place rest f
  other : (item : Tree) (front behind : List ℕ) → rest ≡ front ++ behind → Spells item front → ¬ (is_header item) → f.offset ≡ place → f.kind ≡ Header
      → HeaderFault is_header place rest f

abbrev pub HeaderFails : (Tree → Type 0) → ℕ → List ℕ → Bool → RecordFault → Type 0
HeaderFails is_header place left failed f =
    ByCause f.kind (IsTrue failed × (f.offset ≡ place)) (f.offset ≡ place) (HeaderFault is_header place left f)
