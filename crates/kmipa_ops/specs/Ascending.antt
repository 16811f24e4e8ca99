-- Each live object of a ledger has a secret of its own.
use Rattle.std.specs.Prelude.{◌≡◌, ◌<◌, ℕ, List, Some, slice_get}
use Rattle.kmipa_object.specs.declared.life.Material.TheVariants.{Secret}
use Rattle.kmipa_object.specs.declared.life.SecretNo.{SecretNo}
use Rattle.kmipa_store.specs.Ledger.{Held}

-- later objects have later secrets, so that no two have one
pub record SecretsAscend (objects : List Held) : Type 0 where
  pub ascend : (p q : ℕ) (g h : Held) (s t : SecretNo) → p < q → slice_get objects p ≡ Some g → slice_get objects q ≡ Some h
      → g.material ≡ Secret s → h.material ≡ Secret t → s.number < t.number
