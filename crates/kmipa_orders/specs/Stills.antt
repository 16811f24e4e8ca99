-- What a ledger stands for: its objects as they stand.
use Rattle.std.specs.Prelude.{ℕ, List, map, Option}
use Rattle.kmipa_object.specs.Inventory.{Card}
use Rattle.kmipa_store.specs.Ledger.{Held, Known, Meaning}
use Rattle.kmipa_check.specs.Left.{bytes_left}

-- an object as it stands, with its bytes where they are known; the number of its secret is left out, which hangs on what arrived before it
pub record StillOf : Type 0 where
  pub card : Card
  pub bytes : Option (List ℕ)

abbrev pub still : List Known → Held → StillOf
still secrets h = record { card = h.card; bytes = bytes_left secrets h.material }

-- all objects of a ledger as they stand, in the order of arrival
abbrev pub stills : Meaning → List StillOf
stills m = map (still m.secrets) m.objects
