-- Every ledger that its calls lead to has a choice.
use Rattle.std.specs.Prelude.{◌≡◌, ◌<◌, ℕ, List, [], ◌∷◌, All, Option, Some, is_none, Ok, slice_get}
use Rattle.kmipa_object.specs.Inventory.{live, rule_of}
use Rattle.kmipa_object.specs.declared.life.Life.{Life}
use Rattle.kmipa_object.specs.declared.life.Material.TheVariants.{Secret}
use Rattle.kmipa_object.specs.declared.life.SecretNo.{SecretNo}
use Rattle.kmipa_object.specs.declared.rule.Rule.{Rule}
use Rattle.kmipa_store.specs.Aside.{nothing_aside}
use Rattle.kmipa_store.specs.Ledger.{Held, Known, Meaning, LedgerState, rest_set_aside, judging_ended, kept, undone, gone_back}
use Rattle.kmipa_store.specs.Calls.{Adds, Replaces, Renews, MakesSecret, Learns, SetsAside, TakesIn, SetsMark}
use Rattle.kmipa_store.specs.Choices.{Choice, Chooses, Extends, GoneIfDestroyed, IsSound}
use Rattle.kmipa_store.specs.declared.ledger.Mark.{Mark}

-- the condition of `add` and of `renew`: the bytes are gone exactly where the object is destroyed, and else its secret is there, with its rule
pub record Fits (h : Held) (secrets : List Known) : Type 0 where
  pub gone : GoneIfDestroyed (live h.card) h.material
  pub there : (secret : SecretNo) → h.material ≡ Secret secret → (known : Option (List ℕ)) × (slice_get secrets secret.number ≡ Some (record { rule = rule_of h.card; bytes = known }))

-- the condition of `replace`: the bytes are gone exactly where the object is destroyed, and else they are still its own
pub record Continues (h : Held) (life : Life) : Type 0 where
  pub gone : GoneIfDestroyed (is_none life.destroy) life.material
  pub own : (secret : SecretNo) → life.material ≡ Secret secret → h.material ≡ Secret secret

-- each mark's meaning is sound, and since then no secret was lost and none changed its rule
abbrev pub MarksAreSound : List Known → List Meaning → Type 0
MarksAreSound secrets [] = Unit {0}
MarksAreSound secrets (m ∷ marks) = IsSound m × Extends m.secrets secrets × MarksAreSound m.secrets marks

-- a ledger that is sound now and at each mark
pub record IsSoundLedger (s : LedgerState) : Type 0 where
  pub now : IsSound s.now
  pub marks : MarksAreSound s.now.secrets s.marks

-- the empty ledger is sound, each call leaves a sound ledger sound, under the conditions of `add`, `replace` and `renew`, and a sound ledger has a choice
pub record SoundLedgers : Type 0 where
  pub empty : IsSoundLedger (record { now = record { objects = []; secrets = []; aside = nothing_aside }; marks = [] })
  pub add : (s t : LedgerState) (h : Held) (place : ℕ) → IsSoundLedger s → Fits h s.now.secrets → Adds s h (Ok place) t → IsSoundLedger t
  pub replace : (s t : LedgerState) (place : ℕ) (h : Held) (life : Life) → IsSoundLedger s → slice_get s.now.objects place ≡ Some h → Continues h life → Replaces s place life (Ok tt) t → IsSoundLedger t
  pub renew : (s t : LedgerState) (place : ℕ) (g h : Held) → IsSoundLedger s → slice_get s.now.objects place ≡ Some g → g.card.id ≡ h.card.id → Fits h s.now.secrets → Renews s place h (Ok tt) t → IsSoundLedger t
  pub new_secret : (s t : LedgerState) (rule : Rule) (secret : SecretNo) → IsSoundLedger s → MakesSecret s rule (Ok secret) t → IsSoundLedger t
  pub learn : (s t : LedgerState) (number : ℕ) (bytes : List ℕ) → IsSoundLedger s → All (λ b. b < 256) bytes → Learns s number bytes (Ok tt) t → IsSoundLedger t
  pub set_aside : (s t : LedgerState) (id : List ℕ) → IsSoundLedger s → SetsAside s id (Ok tt) t → IsSoundLedger t
  pub take_in : (s t : LedgerState) (id : List ℕ) → IsSoundLedger s → TakesIn s id (Ok tt) t → IsSoundLedger t
  pub set_rest_aside : (s : LedgerState) → IsSoundLedger s → IsSoundLedger (rest_set_aside s)
  pub end_judging : (s : LedgerState) → IsSoundLedger s → IsSoundLedger (judging_ended s)
  pub mark : (s t : LedgerState) (mark : Mark) → IsSoundLedger s → SetsMark s (Ok mark) t → IsSoundLedger t
  pub keep : (s : LedgerState) → IsSoundLedger s → IsSoundLedger (kept s)
  pub undo : (s : LedgerState) → IsSoundLedger s → IsSoundLedger (undone s)
  pub back : (s : LedgerState) → IsSoundLedger s → IsSoundLedger (gone_back s)
  pub choice : (s : LedgerState) → IsSoundLedger s → (c : Choice) × Chooses s.now.secrets c
