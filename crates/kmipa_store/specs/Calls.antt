-- What the calls of a ledger answer and leave: an Ok and each fault exactly where its condition holds. A fault changes nothing.
use Rattle.std.specs.Prelude.{◌≡◌, ◌&&◌, ℕ, Bool, true, false, not, List, length, Option, Some, None, Result, Ok, Err, is_none, is_some, bytes_eq, slice_get}
use Rattle.kmipa_object.specs.Inventory.{admits, possible}
use Rattle.kmipa_object.specs.declared.life.Life.{Life}
use Rattle.kmipa_object.specs.declared.life.SecretNo.{SecretNo}
use Rattle.kmipa_object.specs.declared.rule.Rule.{Rule}
use Rattle.kmipa_store.specs.Memory.{RefusedForMemory}
use Rattle.kmipa_store.specs.Ledger.{LedgerState, Held, Known, cards_of, place_of, added, replaced, renewed, with_secret, learned, set_aside, taken_in, marked}
use Rattle.kmipa_store.specs.declared.fault.StoreFault.{StoreFault}
use Rattle.kmipa_store.specs.declared.fault.StoreFault.TheVariants.{IdentifierTaken, BytesDiffer, LengthImpossible, Memory}
use Rattle.kmipa_store.specs.declared.ledger.Mark.{Mark}

-- an object has the identifier
abbrev pub is_taken : LedgerState → List ℕ → Bool
is_taken s id = is_some (place_of id (cards_of s.now.objects))

-- `add`: where the identifier is not taken, the object stands after the others
abbrev pub Adds : LedgerState → Held → Result ℕ StoreFault → LedgerState → Type 0
Adds s h (Ok place) t = (is_taken s h.card.id ≡ false) × (place ≡ length s.now.objects) × (t ≡ added s h)
Adds s h (Err IdentifierTaken) t = (is_taken s h.card.id ≡ true) × (t ≡ s)
Adds s h (Err BytesDiffer) t = ⊥
Adds s h (Err LengthImpossible) t = ⊥
Adds s h (Err Memory) t = (is_taken s h.card.id ≡ false) × (t ≡ s)

-- `replace`
abbrev pub Replaces : LedgerState → ℕ → Life → Result (Unit {0}) StoreFault → LedgerState → Type 0
Replaces s place life (Ok u) t = t ≡ replaced s place life
Replaces s place life (Err fault) t = RefusedForMemory fault s t

-- `renew`
abbrev pub Renews : LedgerState → ℕ → Held → Result (Unit {0}) StoreFault → LedgerState → Type 0
Renews s place h (Ok u) t = t ≡ renewed s place h
Renews s place h (Err fault) t = RefusedForMemory fault s t

-- `new_secret`: where the rule admits some bytes, the new secret has the next number
abbrev pub MakesSecret : LedgerState → Rule → Result SecretNo StoreFault → LedgerState → Type 0
MakesSecret s rule (Ok secret) t = (possible rule ≡ true) × (secret.number ≡ length s.now.secrets) × (t ≡ with_secret s rule)
MakesSecret s rule (Err IdentifierTaken) t = ⊥
MakesSecret s rule (Err BytesDiffer) t = ⊥
MakesSecret s rule (Err LengthImpossible) t = (possible rule ≡ false) × (t ≡ s)
MakesSecret s rule (Err Memory) t = (possible rule ≡ true) × (t ≡ s)

-- other bytes are known
abbrev pub differs_from : Option (List ℕ) → List ℕ → Bool
differs_from None bytes = false
differs_from (Some known) bytes = not (bytes_eq known bytes)

abbrev pub differs : Option Known → List ℕ → Bool
differs None bytes = false
differs (Some k) bytes = differs_from k.bytes bytes

-- no bytes are known, and the rule does not admit these
abbrev pub breaks : Option Known → List ℕ → Bool
breaks None bytes = false
breaks (Some k) bytes = is_none k.bytes && not (admits k.rule bytes)

abbrev pub is_unknown : Option Known → Bool
is_unknown None = false
is_unknown (Some k) = is_none k.bytes

-- `learn`: where no other bytes are known, and the rule admits them if none are, the secret has these bytes. Want of memory is told only
-- where none were known
abbrev pub Learns : LedgerState → ℕ → List ℕ → Result (Unit {0}) StoreFault → LedgerState → Type 0
Learns s number bytes (Ok u) t =
    (differs (slice_get s.now.secrets number) bytes ≡ false) × (breaks (slice_get s.now.secrets number) bytes ≡ false) × (t ≡ learned s number bytes)
Learns s number bytes (Err IdentifierTaken) t = ⊥
Learns s number bytes (Err BytesDiffer) t = (differs (slice_get s.now.secrets number) bytes ≡ true) × (t ≡ s)
Learns s number bytes (Err LengthImpossible) t = (breaks (slice_get s.now.secrets number) bytes ≡ true) × (t ≡ s)
Learns s number bytes (Err Memory) t =
    (is_unknown (slice_get s.now.secrets number) ≡ true) × (breaks (slice_get s.now.secrets number) bytes ≡ false) × (t ≡ s)

-- `set_aside`
abbrev pub SetsAside : LedgerState → List ℕ → Result (Unit {0}) StoreFault → LedgerState → Type 0
SetsAside s id (Ok u) t = t ≡ set_aside s id
SetsAside s id (Err fault) t = RefusedForMemory fault s t

-- `take_in`
abbrev pub TakesIn : LedgerState → List ℕ → Result (Unit {0}) StoreFault → LedgerState → Type 0
TakesIn s id (Ok u) t = t ≡ taken_in s id
TakesIn s id (Err fault) t = RefusedForMemory fault s t

-- `mark`: the mark knows how many stand
abbrev pub SetsMark : LedgerState → Result Mark StoreFault → LedgerState → Type 0
SetsMark s (Ok mark) t = (mark.depth ≡ length t.marks) × (t ≡ marked s)
SetsMark s (Err fault) t = RefusedForMemory fault s t
