-- A new object as it is asked for and answered, and what it leaves where it takes the place of a body.
use Rattle.std.specs.Prelude.{◌≡◌, ◌++◌, ◌∷◌, [], ℕ, ℤ, Bool, List, Option, Some, None, Result, Ok, Err, length, option_map, not, ◌||◌, ◌==◌, if◌then◌else◌, bytes_eq}
use Rattle.kmipa_attrs.specs.ObjectTypes.{type_number}
use Rattle.kmipa_attrs.specs.Sets.{Attributes}
use Rattle.kmipa_attrs.specs.declared.object_type.ObjectType.TheVariants.{SymmetricKey}
use Rattle.kmipa_object.specs.Inventory.{Card, admits, given_of, possible, rule_for, rule_of}
use Rattle.kmipa_object.specs.Lists.{updated}
use Rattle.kmipa_object.specs.declared.life.Material.TheVariants.{Secret}
use Rattle.kmipa_object.specs.declared.rule.Rule.{Rule}
use Rattle.kmipa_store.specs.Ledger.{Held, LedgerState, Meaning, cards_of, changed}
use Rattle.kmipa_msgs.specs.Messages.{RulesOf, AskOf, AskedOf, AnswerOf, BlockOf, PayloadOf, RegisteredOf, created, creates, operation_asked, registered, registered_of, registers}
use Rattle.kmipa_msgs.specs.Operations.{operation_number}
use Rattle.kmipa_msgs.specs.declared.response.Status.{Status}
use Rattle.kmipa_msgs.specs.declared.response.Status.TheVariants.{Success, Failed, Undone}
use Rattle.kmipa_ops.specs.Adding.{name_taken, newborn}
use Rattle.kmipa_ops.specs.Effects.{NewOf}
use Rattle.kmipa_ops.specs.Objects.{clash, is_other}
use Rattle.kmipa_ops.specs.Register.{either_of}
use Rattle.kmipa_ops.specs.Subjects.{new_of}
use Rattle.kmipa_ops.specs.declared.why.Why.{Why}
use Rattle.kmipa_ops.specs.declared.why.Why.TheVariants.{OperationDiffers, NameTaken, LengthImpossible, EchoDiffers}
use Rattle.kmipa_aside.specs.declared.birth.Birth.{Birth}

pub record BirthOf : Type 0 where
  pub new : NewOf
  pub answered : RegisteredOf

abbrev pub birth_of : Birth → BirthOf
birth_of b = record { new = new_of b.new; answered = registered_of b.answered }

abbrev pub birth_in : AskedOf → Option PayloadOf → Option BirthOf
birth_in (creates a) (Some (created x)) = Some (record { new = record { kind = SymmetricKey; attributes = a; block = None }; answered = x })
birth_in (registers r) (Some (registered x)) = Some (record { new = record { kind = r.object_type; attributes = r.attributes; block = Some r.block }; answered = x })
birth_in asked payload = None

abbrev pub birth_by : Status → AskedOf → Option PayloadOf → Option BirthOf
birth_by Success asked payload = birth_in asked payload
birth_by Undone asked payload = birth_in asked payload
birth_by Failed asked payload = None

-- its attributes: an algorithm or a length may stand in its Key Block
abbrev pub given_with : Attributes → Option BlockOf → Attributes
given_with a None = a
given_with a (Some b) = record a { algorithm = either_of a.algorithm b.algorithm; length = either_of a.length b.length }

abbrev pub attributes_born : NewOf → Attributes
attributes_born new = given_with new.attributes new.block

-- its bytes, where the client brings them
abbrev pub bytes_born : NewOf → Option (List ℕ)
bytes_born new = option_map (λ (b : BlockOf). b.material) new.block

abbrev pub card_born : ℤ → BirthOf → Card
card_born t b = newborn t b.answered.id b.new.kind (attributes_born b.new)

-- there are bytes for it: any that the rule admits, or these
abbrev pub has_bytes : Rule → Option (List ℕ) → Bool
has_bytes rule None = possible rule
has_bytes rule (Some bytes) = admits rule bytes

-- it stands in the place of another object, and has a secret of its own
abbrev pub object_born : Meaning → Card → Held
object_born m card = record { card = card; material = Secret (record { number = length m.secrets }) }

abbrev pub with_reborn : Meaning → ℕ → Card → Option (List ℕ) → Meaning
with_reborn m place card known = record {
  objects = updated m.objects place (λ (body : Held). object_born m card);
  secrets = m.secrets ++ record { rule = rule_of card; bytes = known } ∷ [];
  aside = m.aside;
}

abbrev pub Renews : {E : Type 0} → LedgerState → ℕ → Card → Option (List ℕ) → Result (Unit {0}) E → LedgerState → Type 0
Renews s place card known (Ok done) u = u ≡ changed s (with_reborn s.now place card known)
Renews s place card known (Err e) u = u.marks ≡ s.marks

-- the lowest reason against it, as if the body weren't there
abbrev pub why_born : RulesOf → Meaning → AskOf → AnswerOf → BirthOf → Option Why
why_born rules m ask answer b =
    if is_other (λ (x y : ℕ). x == y) answer.operation (operation_number (operation_asked ask.asked)) then Some OperationDiffers
    else (if name_taken rules (cards_of m.objects) b.new.attributes.names then Some NameTaken
    else (if not (has_bytes (rule_for b.new.kind (given_of (attributes_born b.new))) (bytes_born b.new)) then Some LengthImpossible
    else (if clash bytes_eq answer.batch_id ask.batch_id || is_other (λ (x y : ℕ). x == y) b.answered.object_type (type_number b.new.kind) then Some EchoDiffers else None)))
