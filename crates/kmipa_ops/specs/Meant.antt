-- The object that is meant, in a ledger.
use Rattle.std.specs.Prelude.{ℕ, ℤ, Bool, true, false, List, Option, Some, None, slice_get, option_and_then, ◌≡◌}
use Rattle.kmipa_object.specs.Inventory.{place_of}
use Rattle.kmipa_object.specs.declared.allow.Act.{Act}
use Rattle.kmipa_object.specs.declared.allow.Allow.{Allow}
use Rattle.kmipa_object.specs.declared.allow.Allow.TheVariants.{Not, Must, May}
use Rattle.kmipa_object.specs.declared.life.Material.{Material}
use Rattle.kmipa_object.specs.declared.life.Material.TheVariants.{Gone, Secret}
use Rattle.kmipa_store.specs.Ledger.{Held, Known, Meaning, cards_of}
use Rattle.kmipa_msgs.specs.Messages.{RulesOf}
use Rattle.kmipa_ops.specs.Allowance.{allowance}
use Rattle.kmipa_ops.specs.Objects.{meant}
use Rattle.kmipa_ops.specs.Row.{SubjectOf, on_object, on_names, on_nothing}

-- the place of the object that is meant, where an identifier is meant and an object has it
abbrev pub place_meant : List Held → Option (List ℕ) → Option ℕ
place_meant objects None = None
place_meant objects (Some id) = place_of id (cards_of objects)

-- the place of the object that a refusal is judged by
abbrev pub place_about : List Held → Option (List ℕ) → SubjectOf → Option ℕ
place_about objects before (on_object id act unjudged) = place_meant objects (meant id before)
place_about objects before (on_names names) = None
place_about objects before on_nothing = None

-- the object itself
abbrev pub object_meant : List Held → Option (List ℕ) → Option Held
object_meant objects about = option_and_then (slice_get objects) (place_meant objects about)

-- the rules exclude the operation in its state
abbrev pub IsExcluded : RulesOf → List Held → Option (List ℕ) → ℤ → Act → Type 0
IsExcluded rules objects about t act = (h : Held) × (object_meant objects about ≡ Some h) × (allowance rules act t h.card ≡ Not)

-- its secret, unless it is gone
abbrev pub secret_at : List Known → Material → Option Known
secret_at secrets Gone = None
secret_at secrets (Secret secret) = slice_get secrets secret.number

abbrev pub secret_meant : Meaning → Option (List ℕ) → Option Known
secret_meant m about = option_and_then (λ (h : Held). secret_at m.secrets h.material) (object_meant m.objects about)

abbrev pub is_not : Allow → Bool
is_not Must = false
is_not May = false
is_not Not = true

-- the rules exclude the operation in the object's state
abbrev pub is_excluded : RulesOf → Act → ℤ → Option Held → Bool
is_excluded rules act t None = false
is_excluded rules act t (Some h) = is_not (allowance rules act t h.card)
