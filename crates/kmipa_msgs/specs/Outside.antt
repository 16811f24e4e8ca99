-- A message says one thing, or is outside the profile at some item.
use Rattle.std.specs.Prelude.{◌⊎◌, ◌≡◌, ◌<◌, ℕ, zero, suc, List, [], ◌∷◌, Result, Ok, Err}
use Rattle.kmipa_ttlv.specs.Tree.{Tree}
use Rattle.kmipa_attrs.specs.Readings.{map_ok}
use Rattle.kmipa_msgs.specs.declared.fault.ReadFault.{ReadFault}
use Rattle.kmipa_msgs.specs.declared.fault.ReadFault
use Rattle.kmipa_msgs.specs.declared.kind.OutsideKind.{OutsideKind}
use Rattle.kmipa_msgs.specs.Kinds.{kind_number}

-- the message is said, no other is, and at no item is anything outside
pub record Inside {M : Type 0} (Said : M → Type 0) (Fault : ℕ → OutsideKind → Type 0) (m : M) : Type 0 where
  pub said : Said m
  pub only : (y : M) → Said y → y ≡ m
  pub right : (i : ℕ) (k : OutsideKind) → Fault i k → ⊥

-- the condition of this kind holds at this item, 0 being the message itself, none of a lower kind there, and none at a lower item
pub record OutsideAt (Fault : ℕ → OutsideKind → Type 0) (item : ℕ) (kind : OutsideKind) : Type 0 where
  pub here : Fault item kind
  pub least : (j : OutsideKind) → kind_number j < kind_number kind → Fault item j → ⊥
  pub first : (i : ℕ) (j : OutsideKind) → i < item → Fault i j → ⊥

-- one or the other, whatever the item
abbrev pub IsSaidOrOutside : {M : Type 0} → (M → Type 0) → (ℕ → OutsideKind → Type 0) → Type 0
IsSaidOrOutside {M} Said Fault = ((m : M) × Inside Said Fault m) ⊎ ((item : ℕ) × (kind : OutsideKind) × OutsideAt Fault item kind)

-- what a reader tells: the one message that is said, or where it is outside; want of memory tells nothing of it
abbrev pub TellsSaid : {X M : Type 0} → (X → M) → (M → Type 0) → (ℕ → OutsideKind → Type 0) → Result X ReadFault → Type 0
TellsSaid meaning Said Fault (Ok x) = Inside Said Fault (meaning x)
TellsSaid meaning Said Fault (Err (ReadFault.TheVariants.Outside o)) = OutsideAt Fault o.item o.kind
TellsSaid meaning Said Fault (Err ReadFault.TheVariants.Memory) = Unit {0}

-- THE ITEMS OF A MESSAGE, each by its place, counted from 0

abbrev pub SaysEach : {X : Type 0} → (ℕ → Tree → X → Type 0) → List Tree → List X → Type 0
SaysEach Said [] [] = Unit {0}
SaysEach Said (t ∷ ts) (x ∷ xs) = Said 0 t x × SaysEach (λ i. Said (suc i)) ts xs
SaysEach Said _ _ = ⊥

-- the condition of the item at the place
abbrev pub EachFault : (ℕ → Tree → OutsideKind → Type 0) → List Tree → ℕ → OutsideKind → Type 0
EachFault Fault [] place k = ⊥
EachFault Fault (t ∷ ts) zero k = Fault 0 t k
EachFault Fault (t ∷ ts) (suc place) k = EachFault (λ i. Fault (suc i)) ts place k

-- what holds of the message itself, and of its items from item 1 on
abbrev pub ByItem : (OutsideKind → Type 0) → (ℕ → OutsideKind → Type 0) → ℕ → OutsideKind → Type 0
ByItem Whole Each zero k = Whole k
ByItem Whole Each (suc place) k = Each place k

-- THE READINGS

abbrev pub ReadsAt : {M : Type 0} → (M → Type 0) → (ℕ → OutsideKind → Type 0) → Result M (ℕ × OutsideKind) → Type 0
ReadsAt Said Fault (Ok m) = Inside Said Fault m
ReadsAt Said Fault (Err p) = OutsideAt Fault p.0 p.1

-- one item before the others
abbrev pub before : {X : Type 0} → Result X OutsideKind → Result (List X) (ℕ × OutsideKind) → Result (List X) (ℕ × OutsideKind)
before (Err k) rest = Err (0, k)
before (Ok x) (Ok xs) = Ok (x ∷ xs)
before (Ok x) (Err p) = Err (suc p.0, p.1)

-- the items, or the first that is outside
abbrev pub each_in : {X : Type 0} → (ℕ → Tree → Result X OutsideKind) → List Tree → Result (List X) (ℕ × OutsideKind)
each_in read [] = Ok []
each_in read (t ∷ ts) = before (read 0 t) (each_in (λ i. read (suc i)) ts)

-- the items count from 1
abbrev pub from_one : {X : Type 0} → Result X (ℕ × OutsideKind) → Result X (ℕ × OutsideKind)
from_one (Ok x) = Ok x
from_one (Err p) = Err (suc p.0, p.1)

-- a header before the items
abbrev pub headed : {H X M : Type 0} → (H → List X → M) → Result H OutsideKind → Result (List X) (ℕ × OutsideKind) → Result M (ℕ × OutsideKind)
headed make (Err k) rest = Err (0, k)
headed make (Ok h) rest = map_ok (make h) (from_one rest)

-- a reading that has no items
abbrev pub alone : {M : Type 0} → Result M OutsideKind → Result M (ℕ × OutsideKind)
alone (Ok m) = Ok m
alone (Err k) = Err (0, k)

-- what the program's readers give of a reading
abbrev pub Gives : {X M : Type 0} → (X → M) → Result X ReadFault → Result M (ℕ × OutsideKind) → Type 0
Gives meaning (Ok x) r = r ≡ Ok (meaning x)
Gives meaning (Err (ReadFault.TheVariants.Outside o)) r = r ≡ Err (o.item, o.kind)
Gives meaning (Err ReadFault.TheVariants.Memory) r = Unit {0}
