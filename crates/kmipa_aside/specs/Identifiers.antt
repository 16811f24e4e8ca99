-- What the definitions say together.
use Rattle.std.specs.Prelude.{◌≡◌, ◌≢◌, ℕ, ℤ, true, false, List, Option, Some, slice_get, ◌↔◌}
use Rattle.kmipa_object.specs.Inventory.{Thing}
use Rattle.kmipa_msgs.specs.Messages.{RulesOf, AskOf, AnswerOf}
use Rattle.kmipa_store.specs.Aside.{is_any_aside}
use Rattle.kmipa_ops.specs.Completes.{DoesSome}
use Rattle.kmipa_passed.specs.Leaving.{HeldOf, unknown}
use Rattle.kmipa_aside.specs.Cases.{case}
use Rattle.kmipa_aside.specs.Ever.{DoesPlain, held_by, known}
use Rattle.kmipa_aside.specs.Standing.{StandOf, is_aside}
use Rattle.kmipa_aside.specs.Worlds.{WorldOf, stand, set_aside, set_all_aside, end_judging}
use Rattle.kmipa_aside.specs.declared.case.Case.TheVariants.{AsEver}

-- an identifier that is set aside is so, and what is judged of others stays; where all are set aside, or judging is over, every identifier is
pub record IdentifiersAreSetAside : Type 0 where
  pub aside : (t : ℤ) (id : List ℕ) (w : WorldOf) → is_aside (stand (set_aside t id w)) id ≡ true
  pub others : (t : ℤ) (id other : List ℕ) (w : WorldOf) → other ≢ id → is_aside (stand (set_aside t id w)) other ≡ is_aside (stand w) other
  pub objects : (t : ℤ) (id : List ℕ) (w : WorldOf) (place : ℕ) (o : Thing) → slice_get w.things place ≡ Some o → o.card.id ≢ id
      → slice_get (set_aside t id w).things place ≡ Some o
  pub all : (t : ℤ) (id : List ℕ) (w : WorldOf) → is_aside (stand (set_all_aside t w)) id ≡ true
  pub over : (id : List ℕ) (w : WorldOf) → is_aside (stand (end_judging w)) id ≡ true

-- where nothing is set aside, and the placeholder is known, each item is judged as ever
abbrev pub AsEverWithoutAsides : Type 0
AsEverWithoutAsides =
    (rules : RulesOf) (s : StandOf) (before : HeldOf) (ask : AskOf) (answer : AnswerOf) → is_any_aside s.aside ≡ false → before ≢ unknown → case rules s before ask answer ≡ AsEver

-- and it does exactly what it does without this layer: the things go on, and nothing is set aside
abbrev pub PlainWithoutAsides : Type 0
PlainWithoutAsides =
    (rules : RulesOf) (t : ℤ) (ask : AskOf) (answer : AnswerOf) (w : WorldOf) (before : HeldOf) (w' : WorldOf) (after : HeldOf) → is_any_aside w.aside ≡ false → before ≢ unknown
    → DoesPlain rules t ask answer w before w' after
    ↔ ((V : List Thing) × (held : Option (List ℕ)) × DoesSome rules w.things (known before) t ask answer V held × (w' ≡ record w { things = V })
    × (after ≡ held_by answer.status before answer.payload))
