-- WHAT IS IMPOSSIBLE ABOUT HIDDEN OBJECTS, where a server has to hide them (profile).
use Rattle.std.specs.Prelude.{◌≡◌, ◌&&◌, ◌||◌, ◌==◌, ℕ, ℤ, Bool, true, false, not, nat_lt, if◌then◌else◌, List, Option, Some, None, Result, Ok, Err}
use Rattle.std.specs.List.{list_any}
use Rattle.kmipa_attrs.specs.Sets.{NameOf}
use Rattle.kmipa_object.specs.Inventory.{Card}
use Rattle.kmipa_store.specs.Ledger.{LedgerState, Meaning}
use Rattle.kmipa_msgs.specs.Messages.{RowOf, AskOf, AskedOf, AnswerOf, PayloadOf, locates, located}
use Rattle.kmipa_msgs.specs.declared.rules.Visibility.{Visibility}
use Rattle.kmipa_msgs.specs.declared.rules.Visibility.TheVariants.{Everyone, MayHide, MustHide}
use Rattle.kmipa_ops.specs.Locate.{is_listed}
use Rattle.kmipa_ops.specs.Objects.{is_named}
use Rattle.kmipa_ops.specs.Row.{SubjectOf, on_object, on_names, on_nothing}
use Rattle.kmipa_ops.specs.Rows.{subject_asked}
use Rattle.kmipa_ops.specs.Whys.{why_number}
use Rattle.kmipa_ops.specs.declared.why.Why.{Why}
use Rattle.kmipa_ops.specs.declared.why.Why.TheVariants.{NotVisible, ReasonUnfounded}
use Rattle.kmipa_ops.specs.declared.why.Refusal.{Refusal}
use Rattle.kmipa_ops.specs.declared.why.Refusal.TheVariants.{Impossible, Memory}
use Rattle.kmipa_passed.specs.Leaving.{HeldOf, held_of}
use Rattle.kmipa_passed.specs.declared.leaving.Held.{Held}
use Rattle.kmipa_aside.specs.Aims.{aim}
use Rattle.kmipa_aside.specs.Becoming.{stand_in}
use Rattle.kmipa_aside.specs.Cases.{case, is_failed, is_taken_name, says_taken}
use Rattle.kmipa_aside.specs.Does.{is_as_ever}
use Rattle.kmipa_aside.specs.Explains.{Refutes, Took}
use Rattle.kmipa_aside.specs.Missed.{is_any}
use Rattle.kmipa_aside.specs.Places.{PlaceOf, judged}
use Rattle.kmipa_aside.specs.Seen.{DoesSeen, is_hidden, lowest_seen}
use Rattle.kmipa_aside.specs.Sights.{SightOf}
use Rattle.kmipa_aside.specs.Standing.{StandOf, is_judged}
use Rattle.kmipa_aside.specs.Taking.{Tells}
use Rattle.kmipa_aside.specs.Worlds.{WorldOf, stand}

-- ---- no client is told of a hidden object

-- a list has one that is judged
abbrev pub any_told : List (List ℕ) → StandOf → List (List ℕ) → Bool
any_told hidden s ids = list_any (λ (id : List ℕ). is_listed hidden id && is_judged s id) ids

abbrev pub lists_hidden : List (List ℕ) → StandOf → AskedOf → Option PayloadOf → Bool
lists_hidden hidden s (locates q) (Some (located ids)) = any_told hidden s ids
lists_hidden hidden s asked payload = false

-- an item that was done is about one, and is judged as ever; or it lists one
abbrev pub is_told : SightOf → StandOf → HeldOf → AskOf → AnswerOf → Bool
is_told sight s before ask answer =
    not (is_failed answer.status)
    && ((is_hidden sight.hidden (aim before ask answer) && is_as_ever (case sight.rules s before ask answer)) || lists_hidden sight.hidden s ask.asked answer.payload)

-- ---- and the names of hidden objects aren't taken

-- an object in sight has one of these names, destroyed or not
abbrev pub any_seen_named : List (List ℕ) → List Card → List NameOf → Bool
any_seen_named hidden cs names = list_any (λ (c : Card). not (is_listed hidden c.id) && is_named names c) cs

-- the names that a new object was to have
abbrev pub names_of : SubjectOf → Option (List NameOf)
names_of (on_object id act unjudged) = None
names_of (on_names names) = Some names
names_of on_nothing = None

-- a row of another cause has this reason
abbrev pub says_other : List RowOf → Option ℕ → Bool
says_other rows None = false
says_other rows (Some reason) = list_any (λ (row : RowOf). (row.reason == reason) && not (is_taken_name row.cause)) rows

abbrev pub is_unseen : List (List ℕ) → List Card → Option (List NameOf) → Bool
is_unseen hidden cs None = false
is_unseen hidden cs (Some names) = not (any_seen_named hidden cs names)

-- a new object was refused for a taken name alone, and no object in sight has it
abbrev pub is_untaken : SightOf → StandOf → HeldOf → AskOf → AnswerOf → Bool
is_untaken sight s before ask answer =
    is_failed answer.status && says_taken sight.rules.rows answer.reason && not (says_other sight.rules.rows answer.reason)
    && is_as_ever (case sight.rules s before ask answer) && is_unseen sight.hidden s.cards (names_of (subject_asked ask.asked))

-- ---- THE DEFINITION

-- a server has to hide some
abbrev pub is_must : Visibility → Bool
is_must Everyone = false
is_must MayHide = false
is_must MustHide = true

abbrev pub has_to_hide : SightOf → Bool
has_to_hide sight = is_must sight.rules.visibility && is_any sight.hidden

-- why a place is impossible that is possible where a server may hide objects
abbrev pub why_denied : SightOf → StandOf → HeldOf → AskOf → AnswerOf → Option Why
why_denied sight s before ask answer =
    if is_told sight s before ask answer then Some NotVisible else (if is_untaken sight s before ask answer then Some ReasonUnfounded else None)

abbrev pub forbids : SightOf → StandOf → HeldOf → AskOf → AnswerOf → Option Why
forbids sight s before ask answer = if has_to_hide sight then why_denied sight s before ask answer else None

pub record DoesPermitted (sight : SightOf) (t : ℤ) (ask : AskOf) (answer : AnswerOf) (w : WorldOf) (before : HeldOf) (w' : WorldOf) (after : HeldOf) : Type 0 where
  pub permitted : forbids sight (stand w) before ask answer ≡ None
  pub does : DoesSeen sight t ask answer w before w' after

-- ---- what taking one comes to

-- the lower of two reasons
abbrev pub lower_of : Why → Why → Why
lower_of a b = if nat_lt (why_number b) (why_number a) then b else a

abbrev pub lower : Option Why → Option Why → Option Why
lower None b = b
lower (Some a) None = Some a
lower (Some a) (Some b) = Some (lower_of a b)

-- the lowest reason against it
abbrev pub lowest_permitted : SightOf → Meaning → HeldOf → ℤ → PlaceOf → Option Why
lowest_permitted sight m before t (judged ask answer) = lower (lowest_seen sight m before t (judged ask answer)) (forbids sight (stand_in m) before ask answer)

-- from a ledger `s` and a placeholder to `u` and another; or no choice allows it, and the lowest reason is told
abbrev pub TakenPermitted : SightOf → LedgerState → HeldOf → ℤ → PlaceOf → Result Held Refusal → LedgerState → Type 0
TakenPermitted sight s before t (judged ask answer) (Ok after) u = Took (DoesPermitted sight t ask answer) (Tells ask answer) s before u (held_of after)
TakenPermitted sight s before t (judged ask answer) (Err (Impossible why)) u =
    (lowest_permitted sight s.now before t (judged ask answer) ≡ Some why) × Refutes (DoesPermitted sight t ask answer) s.now before × (u ≡ s)
TakenPermitted sight s before t (judged ask answer) (Err Memory) u = u.marks ≡ s.marks
