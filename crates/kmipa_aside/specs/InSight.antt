-- WHAT A JUDGED PLACE OF A CALL DOES, by what its client sees (profile).
use Rattle.std.specs.Prelude.{◌≡◌, ◌↔◌, ◌&&◌, ℤ, Bool, false, not, if◌then◌else◌, List, ℕ, Option, Some, None, Result, Ok, Err}
use Rattle.std.specs.List.{list_any}
use Rattle.kmipa_attrs.specs.Sets.{NameOf}
use Rattle.kmipa_object.specs.Inventory.{Card, live}
use Rattle.kmipa_store.specs.Ledger.{LedgerState, Meaning}
use Rattle.kmipa_msgs.specs.Messages.{RulesOf, AskOf, AnswerOf}
use Rattle.kmipa_ops.specs.Locate.{is_listed}
use Rattle.kmipa_ops.specs.Objects.{any_live_named, is_named}
use Rattle.kmipa_ops.specs.Rows.{subject_asked}
use Rattle.kmipa_ops.specs.declared.why.Why.{Why}
use Rattle.kmipa_ops.specs.declared.why.Refusal.{Refusal}
use Rattle.kmipa_ops.specs.declared.why.Refusal.TheVariants.{Impossible, Memory}
use Rattle.kmipa_passed.specs.Leaving.{HeldOf, held_of}
use Rattle.kmipa_passed.specs.declared.leaving.Held.{Held}
use Rattle.kmipa_aside.specs.Becoming.{stand_in}
use Rattle.kmipa_aside.specs.Explains.{Refutes, Took}
use Rattle.kmipa_aside.specs.Missed.{is_any}
use Rattle.kmipa_aside.specs.Permitted.{DoesPermitted, lowest_permitted, names_of}
use Rattle.kmipa_aside.specs.Places.{DoesJudged, PlaceOf, judged}
use Rattle.kmipa_aside.specs.Sights.{SightOf, all_in_sight}
use Rattle.kmipa_aside.specs.Standing.{StandOf}
use Rattle.kmipa_aside.specs.Taking.{Tells}
use Rattle.kmipa_aside.specs.Worlds.{WorldOf, stand}

-- ---- names are unique among the objects in sight

-- a live object in sight has one of these names
abbrev pub any_live_seen : List (List ℕ) → List Card → List NameOf → Bool
any_live_seen hidden cs names = list_any (λ (c : Card). not (is_listed hidden c.id) && live c && is_named names c) cs

-- live objects have some of them, and none of these is in sight
abbrev pub is_borne_unseen : List (List ℕ) → List Card → Option (List NameOf) → Bool
is_borne_unseen hidden cs None = false
is_borne_unseen hidden cs (Some names) = any_live_named cs names && not (any_live_seen hidden cs names)

-- so for this item names may be shared
abbrev pub may_share : SightOf → StandOf → AskOf → Bool
may_share sight s ask = is_any sight.hidden && sight.rules.unique_names && is_borne_unseen sight.hidden s.cards (names_of (subject_asked ask.asked))

abbrev pub with_shared : RulesOf → RulesOf
with_shared rules = record rules { unique_names = false }

abbrev pub sight_for : SightOf → StandOf → AskOf → SightOf
sight_for sight s ask = if may_share sight s ask then record sight { rules = with_shared sight.rules } else sight

-- ---- THE DEFINITION

abbrev pub DoesInSight : SightOf → ℤ → AskOf → AnswerOf → WorldOf → HeldOf → WorldOf → HeldOf → Type 0
DoesInSight sight t ask answer w before w' after = DoesPermitted (sight_for sight (stand w) ask) t ask answer w before w' after

-- ---- what taking one comes to

abbrev pub lowest_in_sight : SightOf → Meaning → HeldOf → ℤ → PlaceOf → Option Why
lowest_in_sight sight m before t (judged ask answer) = lowest_permitted (sight_for sight (stand_in m) ask) m before t (judged ask answer)

-- from a ledger `s` and a placeholder to `u` and another; or no choice allows it, and the lowest reason is told
abbrev pub TakenInSight : SightOf → LedgerState → HeldOf → ℤ → PlaceOf → Result Held Refusal → LedgerState → Type 0
TakenInSight sight s before t (judged ask answer) (Ok after) u = Took (DoesInSight sight t ask answer) (Tells ask answer) s before u (held_of after)
TakenInSight sight s before t (judged ask answer) (Err (Impossible why)) u =
    (lowest_in_sight sight s.now before t (judged ask answer) ≡ Some why) × Refutes (DoesInSight sight t ask answer) s.now before × (u ≡ s)
TakenInSight sight s before t (judged ask answer) (Err Memory) u = u.marks ≡ s.marks

-- ---- where nothing is hidden, a place does exactly what it does without this layer

abbrev pub SeenWithoutHidden : Type 0
SeenWithoutHidden =
    (rules : RulesOf) (t : ℤ) (ask : AskOf) (answer : AnswerOf) (w : WorldOf) (before : HeldOf) (w' : WorldOf) (after : HeldOf)
    → DoesInSight (all_in_sight rules) t ask answer w before w' after ↔ DoesJudged rules t ask answer w before w' after
