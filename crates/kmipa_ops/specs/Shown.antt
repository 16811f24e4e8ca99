-- The reasons against a Get of a live object, in their order, as they are looked at one after the other.
use Rattle.std.specs.Prelude.{◌≡◌, ℕ, List, cond, slice_get, Option, Some, None}
use Rattle.std.specs.Option.{option_or}
use Rattle.kmipa_object.specs.Inventory.{rule_of}
use Rattle.kmipa_object.specs.declared.life.SecretNo.{SecretNo}
use Rattle.kmipa_object.specs.declared.rule.Rule.{Rule}
use Rattle.kmipa_store.specs.Ledger.{Held, Known, Meaning}
use Rattle.kmipa_store.specs.Calls.{differs, breaks}
use Rattle.kmipa_msgs.specs.Messages.{GotOf}
use Rattle.kmipa_ops.specs.declared.why.Why.{Why}
use Rattle.kmipa_ops.specs.declared.why.Why.TheVariants.{BytesDiffer, LengthImpossible, AttributeDiffers, EchoDiffers}
use Rattle.kmipa_ops.specs.Objects.{is_other_id}
use Rattle.kmipa_ops.specs.Get.{shows_other}

-- the secret is there, with this rule
pub record HasRule (m : Meaning) (secret : SecretNo) (rule : Rule) : Type 0 where
  pub known : Option (List ℕ)
  pub is : slice_get m.secrets secret.number ≡ Some (record { rule = rule; bytes = known })

abbrev pub IsSecretOf : Meaning → Held → SecretNo → Type 0
IsSecretOf m h secret = HasRule m secret (rule_of h.card)

-- against the bytes
abbrev pub bytes_speak : Option Known → List ℕ → Option Why
bytes_speak secret bytes = cond (differs secret bytes) (Some BytesDiffer) (cond (breaks secret bytes) (Some LengthImpossible) None)

-- and then against the rest
abbrev pub shown_speak : Meaning → Option (List ℕ) → Held → SecretNo → GotOf → Option Why
shown_speak m about h secret a =
    option_or (bytes_speak (slice_get m.secrets secret.number) a.block.material)
    (cond (shows_other a (Some h)) (Some AttributeDiffers) (cond (is_other_id a.id about) (Some EchoDiffers) None))

abbrev pub live_speak : Meaning → Option (List ℕ) → Held → SecretNo → Option GotOf → Option Why
live_speak m about h secret None = None
live_speak m about h secret (Some a) = shown_speak m about h secret a
