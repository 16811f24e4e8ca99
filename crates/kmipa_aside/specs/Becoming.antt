-- What calls of a ledger make of each world that it stands for, where they tell no bytes.
use Rattle.std.specs.Prelude.{◌≡◌, ℕ, ℤ, List, map, drop, length, Option, Result, Ok, Err}
use Rattle.kmipa_store.specs.Ledger.{Held, Meaning, LedgerState, cards_of, with_aside}
use Rattle.kmipa_store.specs.Choices.{Choice, IsSound}
use Rattle.kmipa_passed.specs.Leaving.{HeldOf, held_of, leaves}
use Rattle.kmipa_passed.specs.declared.leaving.Held.{Held as HeldBy}
use Rattle.kmipa_aside.specs.Standing.{StandOf}
use Rattle.kmipa_aside.specs.Worlds.{WorldOf, set_all_aside, set_each_aside, set_rest_aside, with_body, with_left}
use Rattle.kmipa_aside.specs.Passed.{PassedOf}
use Rattle.kmipa_aside.specs.Ever.{taken_in}
use Rattle.kmipa_aside.specs.Explains.{SecretsApart, world}

-- what is seen of a ledger
abbrev pub stand_in : Meaning → StandOf
stand_in m = record { cards = cards_of m.objects; aside = m.aside }

-- what is left to do makes of each world now what the whole makes of it at first, and no secret changes
pub record Nears (rest whole : WorldOf → WorldOf) (s u : LedgerState) : Type 0 where
  pub worlds : (c : Choice) → rest (world c u.now) ≡ whole (world c s.now)
  pub secrets : u.now.secrets ≡ s.now.secrets
  pub marks : u.marks ≡ s.marks
  pub sound : IsSound s.now → IsSound u.now
  pub apart : SecretsApart s.now.objects → SecretsApart u.now.objects

-- all is done
abbrev pub Becomes : (WorldOf → WorldOf) → LedgerState → LedgerState → Type 0
Becomes change s u = Nears (λ w. w) change s u

-- the identifiers of objects
abbrev pub held_ids : List Held → List (List ℕ)
held_ids objects = map (λ (h : Held). h.card.id) objects

-- the objects from a place on are still to be set aside, and then the rest; so many there were
pub record NearsAll (t : ℤ) (place count : ℕ) (s u : LedgerState) : Type 0 where
  pub nears : Nears (λ w. set_rest_aside (set_each_aside t (drop place (held_ids s.now.objects)) w)) (set_all_aside t) s u
  pub ids : held_ids u.now.objects ≡ held_ids s.now.objects
  pub all : count ≡ length s.now.objects

-- or memory ran out, and the marks stay
abbrev pub Turns : {E : Type 0} → (WorldOf → WorldOf) → LedgerState → Result (Unit {0}) E → LedgerState → Type 0
Turns change s (Ok done) u = Becomes change s u
Turns change s (Err e) u = u.marks ≡ s.marks

-- the object at a place is a body
abbrev pub bodied : ℤ → Option ℕ → WorldOf → WorldOf
bodied t place w = record w { things = with_body t place w.things }

-- the identifier isn't set aside any more
abbrev pub TakesIn : {E : Type 0} → Option (List ℕ) → LedgerState → Result (Unit {0}) E → LedgerState → Type 0
TakesIn id s (Ok done) u = u ≡ with_aside s (taken_in id s.now.aside)
TakesIn id s (Err e) u = u.marks ≡ s.marks

-- what an item leaves that isn't judged
abbrev pub TurnsPassed : {E : Type 0} → ℤ → PassedOf → HeldOf → LedgerState → Result HeldBy E → LedgerState → Type 0
TurnsPassed t p before s (Ok after) u = (held_of after ≡ (leaves p.ask p.answer before).held) × Becomes (with_left t (leaves p.ask p.answer before).aside) s u
TurnsPassed t p before s (Err e) u = u.marks ≡ s.marks
