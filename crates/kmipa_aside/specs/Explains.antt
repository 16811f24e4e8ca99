-- What a ledger may claim where something is set aside: one choice of bytes for every secret that ever existed meets all that it took.
use Rattle.std.specs.Prelude.{◌≡◌, ◌≤◌, ◌⊎◌, ℕ, List, length, Some, slice_get}
use Rattle.kmipa_object.specs.declared.life.Material.TheVariants.{Secret}
use Rattle.kmipa_object.specs.declared.life.SecretNo.{SecretNo}
use Rattle.kmipa_store.specs.Ledger.{Held, Meaning, LedgerState, bytes_at}
use Rattle.kmipa_store.specs.Choices.{Choice, Chooses, Agrees, inv, IsSound, Extends}
use Rattle.kmipa_passed.specs.Leaving.{HeldOf}
use Rattle.kmipa_aside.specs.Worlds.{WorldOf}

-- the world under a choice
abbrev pub world : Choice → Meaning → WorldOf
world c m = record { things = inv c m.objects; aside = m.aside }

-- what something does to a world and to the ID Placeholder
abbrev pub Deed : Type 1
Deed = WorldOf → HeldOf → WorldOf → HeldOf → Type 0

-- no two objects have one secret
pub record SecretsApart (objects : List Held) : Type 0 where
  pub apart : (p q : ℕ) (g h : Held) (s t : SecretNo) → slice_get objects p ≡ Some g → slice_get objects q ≡ Some h
      → g.material ≡ Secret s → h.material ≡ Secret t → s.number ≡ t.number → p ≡ q

-- it leads the ledger from `m` to `n`, and the placeholder from `before` to `after`; it told these bytes
pub record Explains (does : Deed) (tells : List ℕ → Type 0) (m : Meaning) (before : HeldOf) (n : Meaning) (after : HeldOf) : Type 0 where
  -- every choice afterwards was a choice before, and it links the two worlds
  pub sound : (c : Choice) → Chooses n.secrets c → Chooses m.secrets c × does (world c m) before (world c n) after
  -- whatever it reaches from a world before is a world afterwards, under a choice that agrees on the secrets before
  pub complete : (c : Choice) → Chooses m.secrets c → (w : WorldOf) (h : HeldOf) → does (world c m) before w h
      → (d : Choice) × Chooses n.secrets d × Agrees (length m.secrets) c d × (w ≡ world d n) × (h ≡ after)
  -- bytes are known only where they were, or where it told them
  pub learns : (number : ℕ) (bytes : List ℕ) → bytes_at n.secrets number ≡ Some (Some bytes)
      → (bytes_at m.secrets number ≡ Some (Some bytes)) ⊎ tells bytes
  pub grows : length m.secrets ≤ length n.secrets
  pub extends : Extends m.secrets n.secrets
  pub apart : SecretsApart m.objects → SecretsApart n.objects

-- it was taken
pub record Took (does : Deed) (tells : List ℕ → Type 0) (s : LedgerState) (before : HeldOf) (u : LedgerState) (after : HeldOf) : Type 0 where
  pub explains : Explains does tells s.now before u.now after
  pub sound : IsSound u.now
  pub marks : u.marks ≡ s.marks

-- no choice allows it
pub record Refutes (does : Deed) (m : Meaning) (before : HeldOf) : Type 0 where
  pub never : (c : Choice) → Chooses m.secrets c → (w : WorldOf) (h : HeldOf) → does (world c m) before w h → ⊥
