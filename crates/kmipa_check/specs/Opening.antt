-- The ledger that a declaration opens, entry by entry. Not promised: `Verdicts` says what is known before the first turn.
use Rattle.std.specs.Prelude.{◌≡◌, ◌+◌, ℕ, ℤ, List, [], ◌∷◌, ◌++◌, map, length, Contains, Option, Some, None, Result, Ok, Err}
use Rattle.std.specs.List.{AllZip}
use Rattle.kmipa_object.specs.Inventory.{Thing, IsInventory, rule_of}
use Rattle.kmipa_object.specs.declared.life.Material.{Material}
use Rattle.kmipa_object.specs.declared.life.Material.TheVariants.{Gone, Secret}
use Rattle.kmipa_store.specs.Aside.{nothing_aside}
use Rattle.kmipa_store.specs.Ledger.{Held, Known, Meaning, LedgerState, bytes_at, cards_of, changed}
use Rattle.kmipa_store.specs.Choices.{Choice, Chooses, IsSound, inv}
use Rattle.kmipa_store.specs.declared.fault.StoreFault.{StoreFault}
use Rattle.kmipa_store.specs.declared.fault.StoreFault.TheVariants.{Memory}
use Rattle.kmipa_ops.specs.Ascending.{SecretsAscend}
use Rattle.kmipa_record.specs.Entries.{EntryOf}
use Rattle.kmipa_check.specs.Described.{IsDescribed, card_declared}

-- the secret of a live object that is declared
abbrev pub known_declared : EntryOf → Known
known_declared e = record { rule = rule_of (card_declared e); bytes = e.bytes }

-- the object of an entry as a ledger holds it
abbrev pub held_declared : EntryOf → Material → Held
held_declared e material = record { card = card_declared e; material = material }

-- with the object of an entry after the others: without bytes where it has a Destroy Date, else with a secret of its own
abbrev pub with_declared_at : Option ℤ → Meaning → EntryOf → Meaning
with_declared_at (Some date) m e = record { objects = m.objects ++ held_declared e Gone ∷ []; secrets = m.secrets; aside = m.aside }
with_declared_at None m e = record {
  objects = m.objects ++ held_declared e (Secret (record { number = length m.secrets })) ∷ [];
  secrets = m.secrets ++ known_declared e ∷ [];
  aside = m.aside;
}

abbrev pub with_declared : Meaning → EntryOf → Meaning
with_declared m e = with_declared_at e.attributes.destroy m e

-- what a ledger means that these entries open, behind those that were there
abbrev pub opened_from : Meaning → List EntryOf → Meaning
opened_from m [] = m
opened_from m (e ∷ es) = opened_from (with_declared m e) es

-- what a ledger means that a declaration of these entries opens
abbrev pub opened_by : List EntryOf → Meaning
opened_by entries = opened_from (record { objects = []; secrets = []; aside = nothing_aside }) entries

-- the objects and the secrets are those of such a ledger, whatever is set aside
abbrev pub StandsAsOpened : Meaning → List EntryOf → Type 0
StandsAsOpened m entries = record { objects = m.objects; secrets = m.secrets; aside = nothing_aside } ≡ opened_by entries

-- the next number of a secret behind an object: that of this one is the next, or it has none
abbrev pub IsNextNumber : Material → ℕ → ℕ → Type 0
IsNextNumber Gone next more = more ≡ next
IsNextNumber (Secret secret) next more = (secret.number ≡ next) × (more ≡ next + 1)

-- where the bytes of a declared object are, by its Destroy Date: a live one's in a new secret
abbrev pub PlacedAt : Option ℤ → LedgerState → EntryOf → Material → LedgerState → Type 0
PlacedAt (Some date) s e material t = (material ≡ Gone) × (t ≡ s)
PlacedAt None s e material t =
    (material ≡ Secret (record { number = length s.now.secrets }))
    × (t ≡ changed s (record { objects = s.now.objects; secrets = s.now.secrets ++ known_declared e ∷ []; aside = s.now.aside }))

-- only want of memory refuses it
abbrev pub Places : LedgerState → EntryOf → Result Material StoreFault → LedgerState → Type 0
Places s e (Ok material) t = PlacedAt e.attributes.destroy s e material t
Places s e (Err fault) t = fault ≡ Memory

-- the object of an entry is added. Only want of memory refuses it
abbrev pub Declares : LedgerState → EntryOf → Result (Unit {0}) StoreFault → LedgerState → Type 0
Declares s e (Ok done) t = t ≡ changed s (with_declared s.now e)
Declares s e (Err fault) t = fault ≡ Memory

-- the ledger stands for exactly the inventories that have the objects of these entries
pub record Opened (entries : List EntryOf) (m : Meaning) : Type 0 where
  pub sound : IsSound m
  pub cards : cards_of m.objects ≡ map card_declared entries
  pub described : (c : Choice) → Chooses m.secrets c → AllZip IsDescribed entries (inv c m.objects)
  pub all : (things : List Thing) → IsInventory things → AllZip IsDescribed entries things → (c : Choice) × Chooses m.secrets c × (things ≡ inv c m.objects)
  pub reported : (number : ℕ) (bytes : List ℕ) → bytes_at m.secrets number ≡ Some (Some bytes) → (e : EntryOf) × Contains entries e × (e.bytes ≡ Some bytes)
  pub ascends : SecretsAscend m.objects
