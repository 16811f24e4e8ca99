-- STEPS, ONE AFTER THE OTHER, FROM WORLD TO WORLD (profile).
use Rattle.std.specs.Prelude.{◌≡◌, ℕ, pos, List, map, Contains, Some}
use Rattle.kmipa_store.specs.Ledger.{Meaning, bytes_at}
use Rattle.kmipa_store.specs.Choices.{Choice, Chooses}
use Rattle.kmipa_msgs.specs.Messages.{RulesOf}
use Rattle.kmipa_record.specs.Declarations.{DeclarationOf}
use Rattle.kmipa_record.specs.Entries.{EntryOf}
use Rattle.kmipa_batch.specs.Orders.{order_given}
use Rattle.kmipa_passed.specs.Leaving.{empty}
use Rattle.kmipa_aside.specs.Explains.{SecretsApart, world}
use Rattle.kmipa_aside.specs.Worlds.{WorldOf}
use Rattle.kmipa_bundle.specs.Composing.{DeedOf, DoesDeed, TellsDeed, call, unread}
use Rattle.kmipa_bundle.specs.Deeds.{ChainOf}
use Rattle.kmipa_check.specs.Runs.{rules_declared}
use Rattle.kmipa_turns.specs.Steps.{StepOf, TakenOf, leaves, takes}
use Rattle.kmipa_trail.specs.Opening.{DescribesWorld}

-- What a step does. What a call leaves that can't be read is the same whenever it is taken.
abbrev pub deed_in : TakenOf → DeedOf
deed_in (leaves left counts) = unread (pos 0) left
deed_in (takes c places) = call c (order_given places)

abbrev pub deed_of : StepOf → DeedOf
deed_of s = deed_in s.taken

-- the steps lead from one world to another, one after the other; the ID Placeholder is empty between calls
abbrev pub Leads : RulesOf → WorldOf → List StepOf → WorldOf → Type 0
Leads rules w steps w' = ChainOf (DoesDeed rules) (map deed_of steps) w empty w' empty

-- the bytes were declared, or what one of these steps judged registered or showed them
pub data WereReported (declared : DeclarationOf) (steps : List StepOf) (bytes : List ℕ) : Type 0 where
  by_declaration : (e : EntryOf) → Contains declared.entries e → e.bytes ≡ Some bytes → WereReported declared steps bytes
  by_step : (s : StepOf) → Contains steps s → TellsDeed (deed_of s) bytes → WereReported declared steps bytes

-- what is known after these steps: one choice of bytes meets them all, and bytes are known that were declared, registered or shown
pub record AreKnown (declared : DeclarationOf) (steps : List StepOf) (m : Meaning) : Type 0 where
  -- every choice comes from a described world by these steps
  pub sound : (c : Choice) → Chooses m.secrets c → (start : WorldOf) × DescribesWorld declared start × Leads (rules_declared declared) start steps (world c m)
  -- every world that a described one reaches is one of these
  pub complete : (start w : WorldOf) → DescribesWorld declared start → Leads (rules_declared declared) start steps w → (c : Choice) × Chooses m.secrets c × (w ≡ world c m)
  -- no other bytes are known
  pub reported : (number : ℕ) (bytes : List ℕ) → bytes_at m.secrets number ≡ Some (Some bytes) → WereReported declared steps bytes
  -- no two objects have one secret
  pub apart : SecretsApart m.objects
