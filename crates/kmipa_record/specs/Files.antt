-- Files of items: a header and records, one after the other.
use Rattle.std.specs.Prelude.{◌≡◌, ◌<◌, ◌⊎◌, ℕ, ◌+◌, ◌-◌, List, [], ◌++◌, length, drop, Bool, IsTrue}
use Rattle.kmipa_ttlv.specs.Tree.{Tree}
use Rattle.kmipa_ttlv.specs.Spelling.{Spells}
use Rattle.kmipa_ttlv.specs.Flaw.{OuterFlaw}
use Rattle.kmipa_ttlv.specs.Stream.{Begins, IsCutShort, capped}
use Rattle.kmipa_ttlv.specs.Reading.{IsWhole}
use Rattle.kmipa_ttlv.specs.declared.fault.FaultKind.{FaultKind}
use Rattle.kmipa_record.specs.Kinds.{ByCause}
use Rattle.kmipa_record.specs.declared.fault.RecordFault.{RecordFault}
use Rattle.kmipa_record.specs.declared.fault.RecordKind.{RecordKind}
use Rattle.kmipa_record.specs.declared.fault.RecordKind.TheVariants.{Ttlv}

-- the place in a file at which this rest of it begins
abbrev pub rest_place : List ℕ → List ℕ → ℕ
rest_place bytes rest = capped (length bytes - length rest)

-- The file begins with the spellings of these items, and the rest is after them; by the word none of them is faulty.
pub record IsUpTo (AreRight : List Tree → Type 0) (bytes : List ℕ) (items : List Tree) (rest : List ℕ) : Type 0 where
  pub right : AreRight items
  pub begins : Begins items bytes rest

-- up to this place no item of the file is faulty
pub record IsRightUpTo (AreRight : List Tree → Type 0) (bytes : List ℕ) (place : ℕ) : Type 0 where
  pub items : List Tree
  pub rest : List ℕ
  pub up_to : IsUpTo AreRight bytes items rest
  pub placed : place ≡ rest_place bytes rest

-- The first fault of a file: up to it no item is faulty, and there
--   come bytes, but none that spell an item: the flaw of these bytes;
--   or comes an item that is faulty after those before it: its first byte;
--   or the file ends, and may not end so.
pub data FirstFault (AreRight : List Tree → Type 0) (ItemFault : List Tree → Tree → RecordKind → Type 0) (EndFault : List ℕ → List Tree → ℕ → RecordKind → Type 0)
    (bytes : List ℕ) (offset : ℕ) (kind : RecordKind) : Type 0 where
  in_bytes : (items : List Tree) (rest : List ℕ) (from : ℕ) (flaw : FaultKind) → IsUpTo AreRight bytes items rest → 0 < length rest → OuterFlaw rest from flaw
      → offset ≡ capped (rest_place bytes rest + from) → kind ≡ Ttlv flaw → FirstFault AreRight ItemFault EndFault bytes offset kind
  in_item : (items : List Tree) (item : Tree) (front rest : List ℕ) → IsUpTo AreRight bytes items (front ++ rest) → Spells item front → ItemFault items item kind
      → offset ≡ rest_place bytes (front ++ rest) → FirstFault AreRight ItemFault EndFault bytes offset kind
  at_end : (items : List Tree) → IsUpTo AreRight bytes items [] → EndFault bytes items offset kind → FirstFault AreRight ItemFault EndFault bytes offset kind

-- The fault that a reader tells of a file is its first; or the input is failed, or memory ran out, after what is right.
abbrev pub Tells : (List ℕ → ℕ → RecordKind → Type 0) → (List ℕ → ℕ → Type 0) → List ℕ → Bool → RecordFault → Type 0
Tells Fault RightUpTo file failed f =
    ByCause f.kind (IsTrue failed × RightUpTo file f.offset) (RightUpTo file f.offset) (Fault file f.offset f.kind)

-- one item at most: the beginning of one, or as many bytes as its header says
abbrev pub IsOneItemAtMost : List ℕ → Type 0
IsOneItemAtMost bytes = IsCutShort bytes ⊎ IsWhole bytes

-- Device and Memory are reported where the item begins that was being read: from there on came the beginning of it or, where memory ran out, perhaps all of it.
abbrev pub TellsItem : List ℕ → RecordFault → Type 0
TellsItem came f = ByCause f.kind (IsCutShort (drop f.offset came)) (IsOneItemAtMost (drop f.offset came)) (Unit {0})
