-- What an item leaves that isn't judged: which objects are no longer judged behind it, and what the ID Placeholder holds (profile).
use Rattle.std.specs.Prelude.{ℕ, Bool, true, false, ◌||◌, if◌then◌else◌, List, [], ◌∷◌, ◌++◌, map}
use Rattle.kmipa_passed.specs.Identifiers.{AskedOf, placeholder, named, unnamed, ShownOf, nothing, only, unclear}
use Rattle.kmipa_passed.specs.declared.leaving.Held.{Held}
use Rattle.kmipa_passed.specs.declared.leaving.Held.TheVariants as held
use Rattle.kmipa_passed.specs.declared.leaving.Behind.{Behind}
use Rattle.kmipa_passed.specs.declared.leaving.SetAside.{SetAside}
use Rattle.kmipa_passed.specs.declared.leaving.SetAside.TheVariants as aside
use Rattle.kmipa_passed.specs.declared.passed.Outcome.{Outcome}
use Rattle.kmipa_passed.specs.declared.passed.Outcome.TheVariants.{Done, Undone, Pending, Failed}
use Rattle.kmipa_passed.specs.declared.sorts.Sort.{Sort}
use Rattle.kmipa_passed.specs.declared.sorts.Sort.TheVariants.{Looks, Changes, Makes, MayMake, EndsJudging}
use Rattle.kmipa_passed.specs.Passed.{AskOf, AnswerOf}

-- what the ID Placeholder holds: no identifier, this one, or nobody can tell
pub data HeldOf : Type 0 where
  empty : HeldOf
  holds : List ℕ → HeldOf
  unknown : HeldOf

abbrev pub held_of : Held → HeldOf
held_of held.Empty = empty
held_of (held.Holds id) = holds id.now
held_of held.Unknown = unknown

-- what is set aside behind it: these objects; those of these that aren't judged; all; or all, for good
pub data AsideOf : Type 0 where
  these : List (List ℕ) → AsideOf
  strangers : List (List ℕ) → AsideOf
  all : AsideOf
  over : AsideOf

abbrev pub aside_of : SetAside → AsideOf
aside_of (aside.These ids) = these (map (λ s. s.now) ids.items)
aside_of (aside.Strangers ids) = strangers (map (λ s. s.now) ids.items)
aside_of aside.All = all
aside_of aside.Over = over

pub record LeavesOf : Type 0 where
  pub aside : AsideOf
  pub held : HeldOf

abbrev pub leaves_of : Behind → LeavesOf
leaves_of l = record { aside = aside_of l.aside; held = held_of l.held }

abbrev pub leave : AsideOf → HeldOf → LeavesOf
leave a h = record { aside = a; held = h }

-- ---- by the sort of its operation

-- the object that an answer shows, with these; else what is left where it shows none
abbrev pub with_shown : AskedOf → List (List ℕ) → AsideOf → AsideOf
with_shown (named id) names others = these (id ∷ names)
with_shown placeholder names others = others
with_shown unnamed names others = others

-- A change is of the object that is asked for, or that the ID Placeholder holds; else of the one that the answer shows; else of any, but where the
-- ID Placeholder is meant and is empty. Each object that the request names may be changed, too.
abbrev pub changed : AskedOf → HeldOf → AskedOf → List (List ℕ) → AsideOf
changed (named id) before first names = these (id ∷ names)
changed placeholder (holds id) first names = these (id ∷ names)
changed placeholder empty first names = with_shown first names (these names)
changed placeholder unknown first names = with_shown first names all
changed unnamed before first names = with_shown first names all

-- a Create or a Register makes the object that its answer shows; where it shows none, nobody can tell which
abbrev pub made : AskedOf → LeavesOf
made (named id) = leave (these (id ∷ [])) (holds id)
made placeholder = leave all unknown
made unnamed = leave all unknown

-- the identifier that is meant by the ID Placeholder, ahead of these
abbrev pub with_held : AskedOf → HeldOf → List (List ℕ) → AsideOf
with_held placeholder (holds id) names = these (id ∷ names)
with_held placeholder unknown names = all
with_held placeholder empty names = these names
with_held (named id) before names = these names
with_held unnamed before names = these names

-- an Undone answer without a payload doesn't tell what was made
abbrev pub is_untold : Outcome → Bool → Bool
is_untold Undone bare = bare
is_untold outcome bare = false

-- what may have been made or changed: each object that the request or the answer names; all, where one of them is unclear
abbrev pub touched : AskOf → AnswerOf → HeldOf → AsideOf
touched ask answer before =
    if ask.unclearly || is_untold answer.outcome answer.bare then all else with_held ask.asked before (ask.names ++ answer.names)

-- behind a Locate the ID Placeholder holds the one object that is listed; none, where none is, by a payload that is a structure or absent
abbrev pub located : Outcome → Bool → ShownOf → HeldOf
located Pending formed shown = unknown
located outcome formed (only id) = holds id
located Done true nothing = empty
located Done false nothing = unknown
located Undone formed nothing = unknown
located Failed formed nothing = unknown
located outcome formed unclear = unknown

-- behind another operation that looks it holds what it held, unless the answer is still to come
abbrev pub if_answered : Outcome → HeldOf → HeldOf
if_answered Pending before = unknown
if_answered Done before = before
if_answered Undone before = before
if_answered Failed before = before

-- one that looks changes nothing; what a Locate lists, and isn't judged, is there
abbrev pub looked : Bool → AnswerOf → HeldOf → LeavesOf
looked true answer before = leave (strangers answer.listed) (located answer.outcome answer.formed answer.shown)
looked false answer before = leave (these []) (if_answered answer.outcome before)

-- what is done, by the sort of its operation
abbrev pub done_by : Sort → AskOf → AnswerOf → HeldOf → LeavesOf
done_by Looks ask answer before = looked ask.locates answer before
done_by Changes ask answer before = leave (changed ask.asked before answer.first ask.names) before
done_by Makes ask answer before = made answer.first
done_by MayMake ask answer before = leave (touched ask answer before) unknown
done_by EndsJudging ask answer before = leave over unknown

-- what is still to be done: nobody can tell what it will change, unless it only looks
abbrev pub pending_by : Sort → AskOf → AnswerOf → HeldOf → LeavesOf
pending_by Looks ask answer before = looked ask.locates answer before
pending_by Changes ask answer before = leave over unknown
pending_by Makes ask answer before = leave over unknown
pending_by MayMake ask answer before = leave over unknown
pending_by EndsJudging ask answer before = leave over unknown

-- by its answer: one that failed leaves all as it was
abbrev pub leaves_by : Outcome → AskOf → AnswerOf → HeldOf → LeavesOf
leaves_by Done ask answer before = done_by ask.sort ask answer before
leaves_by Undone ask answer before = done_by ask.sort ask answer before
leaves_by Pending ask answer before = pending_by ask.sort ask answer before
leaves_by Failed ask answer before = leave (these []) before

-- WHAT AN ITEM LEAVES
abbrev pub leaves : AskOf → AnswerOf → HeldOf → LeavesOf
leaves ask answer before = leaves_by answer.outcome ask answer before
