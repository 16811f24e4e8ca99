-- What a run leaves, as a declaration: the objects of a ledger, with their bytes where these are known.
use Rattle.std.specs.Prelude.{◌≡◌, ◌↔◌, ℕ, List, [], map, Option, Some, None, unwrap_or, length}
use Rattle.kmipa_attrs.specs.Sets.{Attributes}
use Rattle.kmipa_object.specs.Inventory.{Card, Thing}
use Rattle.kmipa_object.specs.declared.life.Material.{Material}
use Rattle.kmipa_object.specs.declared.life.Material.TheVariants.{Gone, Secret}
use Rattle.kmipa_store.specs.Ledger.{Held, Known, Meaning, bytes_at}
use Rattle.kmipa_record.specs.Marks.{MarkOf}
use Rattle.kmipa_record.specs.Entries.{EntryOf}
use Rattle.kmipa_record.specs.Declarations.{DeclarationOf, AreDeclared}
use Rattle.kmipa_record.specs.Witnesses.{TurnOf}
use Rattle.kmipa_check.specs.Calls.{CallOf, AreCalls}
use Rattle.kmipa_check.specs.Steps.{StepOf}
use Rattle.kmipa_check.specs.Described.{Describes}
use Rattle.kmipa_check.specs.Grants.{grants_declared}
use Rattle.kmipa_check.specs.Orders.{IsOrder}
use Rattle.kmipa_store.specs.Choices.{IsSound}
use Rattle.kmipa_check.specs.Verdicts.{AreKnown}
use Rattle.kmipa_check.specs.Replays.{Replayed}
use Rattle.kmipa_check.specs.declared.verdict.Verdict.{Verdict}
use Rattle.kmipa_check.specs.declared.verdict.Verdict.TheVariants.{Yes, No}
use Rattle.kmipa_check.specs.Runs.{Linked, IsPlaced, rules_declared}

-- ---- the promise

-- from some inventory that is declared these steps lead to this one
abbrev pub CanEnd : DeclarationOf → List StepOf → List Thing → Type 0
CanEnd declared steps last = (start : List Thing) × Describes declared start × Linked (rules_declared declared) start steps last

-- The declaration is what the steps leave: it describes exactly the inventories in which they can end, under the same rules, and grants the
-- same.
pub record IsLeft (declared : DeclarationOf) (steps : List StepOf) (left : DeclarationOf) : Type 0 where
  pub objects : AreDeclared left
  pub rules : rules_declared left ≡ rules_declared declared
  pub grants : grants_declared left ≡ grants_declared declared
  pub exactly : (last : List Thing) → Describes left last ↔ CanEnd declared steps last

-- The witness takes the calls of these marks, and leaves the other declaration. Where that one describes some inventory, the witness is accepted.
pub record LeavesDeclaration (marks : List MarkOf) (declared : DeclarationOf) (turns : List TurnOf) (left : DeclarationOf) : Type 0 where
  pub calls : List CallOf
  pub are : AreCalls marks calls
  pub steps : List StepOf
  pub order : IsOrder (grants_declared declared) calls turns steps
  pub placed : IsPlaced steps
  pub leaves : IsLeft declared steps left

-- something is handed out exactly at a yes, and this is said of it
abbrev pub LeavesAtYes : {D : Type 0} → Verdict → Option D → (D → Type 0) → Type 0
LeavesAtYes Yes (Some left) P = P left
LeavesAtYes Yes None P = ⊥
LeavesAtYes (No refused) (Some left) P = ⊥
LeavesAtYes (No refused) None P = Unit {0}

-- ---- how it is made

-- the attributes that say what a card says: its own, and its dates
abbrev pub attributes_left : Card → Attributes
attributes_left c = record {
  names = c.given.names;
  object_type = None;
  algorithm = c.given.algorithm;
  length = c.given.length;
  mask = c.given.mask;
  state = None;
  initial = c.dates.initial;
  activation = c.dates.activation;
  deactivation = c.dates.deactivation;
  destroy = c.dates.destroy;
  compromise = c.dates.compromise;
}

-- what is known of an object's bytes
abbrev pub bytes_left : List Known → Material → Option (List ℕ)
bytes_left secrets Gone = None
bytes_left secrets (Secret secret) = unwrap_or (bytes_at secrets secret.number) None

-- the entry of an object
abbrev pub entry_left : List Known → Held → EntryOf
entry_left secrets h = record { id = h.card.id; kind = h.card.kind; attributes = attributes_left h.card; bytes = bytes_left secrets h.material; owner = None }

-- the declaration of a ledger's objects, with the rules of another one
abbrev pub declaration_left : DeclarationOf → Meaning → DeclarationOf
declaration_left declared m = record {
  settings = declared.settings;
  rows = declared.rows;
  allow_lines = declared.allow_lines;
  own_attributes = declared.own_attributes;
  entries = map (entry_left m.secrets) m.objects;
  asides = [];
}

-- The declaration of a ledger that knows what steps leave is what they leave.
abbrev pub LedgerIsLeft : Type 0
LedgerIsLeft = (declared : DeclarationOf) (steps : List StepOf) (m : Meaning) → IsSound m → AreKnown declared steps m
    → IsLeft declared steps (declaration_left declared m)

-- the declaration of a ledger that replayed all steps
pub record IsLeftBehind (declared : DeclarationOf) (order : List StepOf) (left : DeclarationOf) : Type 0 where
  pub ledger : Meaning
  pub replayed : Replayed declared order (length order) ledger
  pub is : left ≡ declaration_left declared ledger
