-- Secrets in memory, and what it is to learn bytes.
use Rattle.std.specs.Prelude.{◌≡◌, ℕ, true, false, List, map, Option, None, Vec, Result, Ok, Err, option_map}
use Rattle.std.specs.declared.alloc.Global.{Global}
use Rattle.kmipa_object.specs.Lists.{updated}
use Rattle.kmipa_store.specs.Ledger.{Known}
use Rattle.kmipa_store.specs.Calls.{differs, breaks, is_unknown}
use Rattle.kmipa_store.specs.declared.fault.StoreFault.{StoreFault}
use Rattle.kmipa_store.specs.declared.fault.StoreFault.TheVariants.{IdentifierTaken, BytesDiffer, LengthImpossible, Memory}
use Rattle.kmipa_store.specs.declared.secrets.Lesson.{Lesson}
use Rattle.kmipa_store.specs.declared.secrets.Lesson.TheVariants.{Old, New}
use Rattle.kmipa_store.specs.declared.secrets.Secret.{Secret}

abbrev pub known_of : Secret → Known
known_of s = record { rule = s.rule; bytes = option_map (λ (b : Vec ℕ Global). b.items) s.bytes }

abbrev pub secrets_of : List Secret → List Known
secrets_of ss = map known_of ss

-- the secret of a number is unknown again
abbrev pub forgotten : List Known → ℕ → List Known
forgotten secrets number = updated secrets number (λ k. record { rule = k.rule; bytes = None })

-- learning bytes: they are known already, or new and admitted, or why not
abbrev pub Judges : Option Known → List ℕ → Result Lesson StoreFault → Type 0
Judges k bytes (Ok Old) = (is_unknown k ≡ false) × (differs k bytes ≡ false)
Judges k bytes (Ok New) = (is_unknown k ≡ true) × (breaks k bytes ≡ false)
Judges k bytes (Err IdentifierTaken) = ⊥
Judges k bytes (Err BytesDiffer) = differs k bytes ≡ true
Judges k bytes (Err LengthImpossible) = breaks k bytes ≡ true
Judges k bytes (Err Memory) = ⊥
