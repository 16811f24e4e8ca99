-- Which reasons of a failed answer are founded (profile).
use Rattle.std.specs.List.{Contains, list_any}
use Rattle.std.specs.Prelude.{◌≡◌, ◌≢◌, ◌↔◌, ◌&&◌, ℕ, ℤ, Bool, true, false, List, Option, Some, None, ◌||◌, ◌==◌, not, is_none}
use Rattle.kmipa_attrs.specs.Sets.{NameOf}
use Rattle.kmipa_object.specs.Inventory.{Card, live}
use Rattle.kmipa_object.specs.declared.allow.Act.{Act}
use Rattle.kmipa_object.specs.declared.allow.Allow.{Allow}
use Rattle.kmipa_object.specs.declared.allow.Allow.TheVariants.{Not, Must, May}
use Rattle.kmipa_msgs.specs.Messages.{RulesOf, AskedOf, RowOf}
use Rattle.kmipa_msgs.specs.declared.rules.Cause.{Cause}
use Rattle.kmipa_msgs.specs.declared.rules.Cause.TheVariants.{WrongState, NotFound, TakenName}
use Rattle.kmipa_ops.specs.Allowance.{allowance}
use Rattle.kmipa_ops.specs.Objects.{meant, card_meant, any_named, HasNameOf}
use Rattle.kmipa_ops.specs.Row.{row_subject, SubjectOf, on_object, on_names, on_nothing}
use Rattle.kmipa_ops.specs.Rows.{asked_row}

-- THE DEFINITION

-- no live object has the identifier that is meant
abbrev pub IsNotFound : List Card → Option (List ℕ) → Type 0
IsNotFound cs about = (c : Card) → card_meant cs about ≡ Some c → live c ≡ true → ⊥

-- the state of the object that is meant lets the operation be refused: the rules say May or Not
abbrev pub IsInWrongState : RulesOf → List Card → Option (List ℕ) → ℤ → Act → Type 0
IsInWrongState rules cs about t act = (c : Card) × (card_meant cs about ≡ Some c) × (allowance rules act t c ≢ Must)

-- an object has one of the names, destroyed or not
abbrev pub IsNameTaken : List Card → List NameOf → Type 0
IsNameTaken cs names = (c : Card) × Contains cs c × HasNameOf names c

-- The cause holds. NotFound and WrongState are judged of operations on an object, and TakenName of new objects; where a cause isn't judged, it
-- counts as holding.
abbrev pub Holds : RulesOf → List Card → Option (List ℕ) → ℤ → SubjectOf → Cause → Type 0
Holds rules cs before t (on_object id act true) cause = Unit {0}
Holds rules cs before t (on_object id act false) NotFound = IsNotFound cs (meant id before)
Holds rules cs before t (on_object id act false) WrongState = IsInWrongState rules cs (meant id before) t act
Holds rules cs before t (on_object id act false) TakenName = Unit {0}
Holds rules cs before t (on_names names) TakenName = IsNameTaken cs names
Holds rules cs before t (on_names names) NotFound = Unit {0}
Holds rules cs before t (on_names names) WrongState = Unit {0}
Holds rules cs before t on_nothing cause = Unit {0}

-- the operation takes an identifier, none is given, and the placeholder is empty
abbrev pub IsOfNothing : Option (List ℕ) → SubjectOf → Type 0
IsOfNothing before (on_object id act unjudged) = meant id before ≡ None
IsOfNothing before (on_names names) = ⊥
IsOfNothing before on_nothing = ⊥

-- there is no reason, or no row of the table has it, or the item is about nothing, or the cause of some row that has it holds
pub data FoundedOf (rules : RulesOf) (cs : List Card) (before : Option (List ℕ)) (t : ℤ) (subject : SubjectOf) (reason : Option ℕ) : Type 0 where
  unsaid : reason ≡ None → FoundedOf rules cs before t subject reason
  unlisted : (number : ℕ) → reason ≡ Some number → ((row : RowOf) → Contains rules.rows row → row.reason ≢ number) → FoundedOf rules cs before t subject reason
  of_nothing : IsOfNothing before subject → FoundedOf rules cs before t subject reason
  caused : (row : RowOf) → Contains rules.rows row → reason ≡ Some row.reason → Holds rules cs before t subject row.cause → FoundedOf rules cs before t subject reason

abbrev pub Founded : RulesOf → List Card → Option (List ℕ) → ℤ → AskedOf → Option ℕ → Type 0
Founded rules cs before t asked reason = FoundedOf rules cs before t (row_subject (asked_row asked)) reason

-- THE TEST

-- the object is there, and isn't destroyed
abbrev pub is_live_there : Option Card → Bool
is_live_there None = false
is_live_there (Some c) = live c

abbrev pub is_must : Allow → Bool
is_must Must = true
is_must May = false
is_must Not = false

-- the object is there, and the rules say May or Not of its state
abbrev pub is_refusable : RulesOf → Act → ℤ → Option Card → Bool
is_refusable rules act t None = false
is_refusable rules act t (Some c) = not (is_must (allowance rules act t c))

-- a cause for refusing an operation on the object that is meant
abbrev pub holds_about : RulesOf → List Card → Option (List ℕ) → ℤ → Act → Cause → Bool
holds_about rules cs about t act NotFound = not (is_live_there (card_meant cs about))
holds_about rules cs about t act WrongState = is_refusable rules act t (card_meant cs about)
holds_about rules cs about t act TakenName = true

-- a cause for refusing an object of these names
abbrev pub holds_named : List Card → List NameOf → Cause → Bool
holds_named cs names TakenName = any_named cs names
holds_named cs names cause = true

abbrev pub holds_of : RulesOf → List Card → Option (List ℕ) → ℤ → SubjectOf → Cause → Bool
holds_of rules cs before t (on_object id act unjudged) cause = unjudged || holds_about rules cs (meant id before) t act cause
holds_of rules cs before t (on_names names) cause = holds_named cs names cause
holds_of rules cs before t on_nothing cause = true

abbrev pub is_of_nothing : Option (List ℕ) → SubjectOf → Bool
is_of_nothing before (on_object id act unjudged) = is_none (meant id before)
is_of_nothing before (on_names names) = false
is_of_nothing before on_nothing = false

-- a row of the table has this reason
abbrev pub has_row : RulesOf → ℕ → Bool
has_row rules reason = list_any (λ (row : RowOf). row.reason == reason) rules.rows

-- a row has this reason, and its cause holds
abbrev pub has_cause : RulesOf → List Card → Option (List ℕ) → ℤ → SubjectOf → ℕ → Bool
has_cause rules cs before t subject reason =
    list_any (λ (row : RowOf). (row.reason == reason) && holds_of rules cs before t subject row.cause) rules.rows

abbrev pub founded_of : RulesOf → List Card → Option (List ℕ) → ℤ → SubjectOf → Option ℕ → Bool
founded_of rules cs before t subject None = true
founded_of rules cs before t subject (Some reason) =
    not (has_row rules reason) || is_of_nothing before subject || has_cause rules cs before t subject reason

abbrev pub founded : RulesOf → List Card → Option (List ℕ) → ℤ → AskedOf → Option ℕ → Bool
founded rules cs before t asked reason = founded_of rules cs before t (row_subject (asked_row asked)) reason

-- the test says exactly the definition
abbrev pub FoundedIsDecided : Type 0
FoundedIsDecided =
    (rules : RulesOf) (cs : List Card) (before : Option (List ℕ)) (t : ℤ) (asked : AskedOf) (reason : Option ℕ) → (founded rules cs before t asked reason ≡ true) ↔ Founded rules cs before t asked reason
