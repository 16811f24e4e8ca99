-- Choices of the bytes of every secret, and the inventory of a ledger under a choice.
use Rattle.std.specs.Prelude.{◌≡◌, ◌<◌, ℕ, List, map, Option, Some, None, Bool, true, false, slice_get}
use Rattle.kmipa_object.specs.Inventory.{Thing, Admitted, IsInventory, live, rule_of}
use Rattle.kmipa_object.specs.declared.life.Material.{Material}
use Rattle.kmipa_object.specs.declared.life.Material.TheVariants.{Gone, Secret}
use Rattle.kmipa_object.specs.declared.life.SecretNo.{SecretNo}
use Rattle.kmipa_store.specs.Ledger.{Held, Known, Meaning}

-- bytes for each secret, by its number; only the numbers of secrets that are there matter
abbrev pub Choice : Type 0
Choice = ℕ → List ℕ

-- bytes that a secret may have: those that its rule admits, the known ones where they are known
pub record Suits (secret : Known) (bytes : List ℕ) : Type 0 where
  pub admitted : Admitted secret.rule bytes
  pub known : (k : List ℕ) → secret.bytes ≡ Some k → bytes ≡ k

-- bytes for each secret that suit it
pub record Chooses (secrets : List Known) (choice : Choice) : Type 0 where
  pub suits : (number : ℕ) (secret : Known) → slice_get secrets number ≡ Some secret → Suits secret (choice number)

-- two choices give the first secrets the same bytes
abbrev pub Agrees : ℕ → Choice → Choice → Type 0
Agrees count c d = (number : ℕ) → number < count → d number ≡ c number

abbrev pub bytes_of : Choice → Material → Option (List ℕ)
bytes_of c Gone = None
bytes_of c (Secret secret) = Some (c secret.number)

abbrev pub thing : Choice → Held → Thing
thing c h = record { card = h.card; bytes = bytes_of c h.material }

-- the inventory under a choice
abbrev pub inv : Choice → List Held → List Thing
inv c objects = map (thing c) objects

-- each object's secret is there, with the object's rule
pub record InRange (objects : List Held) (secrets : List Known) : Type 0 where
  pub there : (place : ℕ) (h : Held) (secret : SecretNo) → slice_get objects place ≡ Some h → h.material ≡ Secret secret
      → (known : Option (List ℕ)) × (slice_get secrets secret.number ≡ Some (record { rule = rule_of h.card; bytes = known }))

-- the bytes are gone exactly where the object is destroyed
abbrev pub GoneIfDestroyed : Bool → Material → Type 0
GoneIfDestroyed true Gone = ⊥
GoneIfDestroyed true (Secret secret) = Unit {0}
GoneIfDestroyed false Gone = Unit {0}
GoneIfDestroyed false (Secret secret) = ⊥

-- a ledger whose objects are as they should be, and that has a choice
pub record IsSound (m : Meaning) : Type 0 where
  pub in_range : InRange m.objects m.secrets
  pub gone : (place : ℕ) (h : Held) → slice_get m.objects place ≡ Some h → GoneIfDestroyed (live h.card) h.material
  pub distinct : (p q : ℕ) (g h : Held) → slice_get m.objects p ≡ Some g → slice_get m.objects q ≡ Some h → g.card.id ≡ h.card.id → p ≡ q
  pub choice : (c : Choice) × Chooses m.secrets c

-- no secret is lost, and none changes its rule
pub record Extends (before after : List Known) : Type 0 where
  pub there : (number : ℕ) (secret : Known) → slice_get before number ≡ Some secret
      → (known : Option (List ℕ)) × (slice_get after number ≡ Some (record { rule = secret.rule; bytes = known }))

abbrev pub EveryChoiceGivesAnInventory : Type 0
EveryChoiceGivesAnInventory = (m : Meaning) (c : Choice) → IsSound m → Chooses m.secrets c → IsInventory (inv c m.objects)
