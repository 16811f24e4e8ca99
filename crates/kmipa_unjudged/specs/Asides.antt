-- WHICH IDENTIFIERS ARE TOLD TO BE SET ASIDE, and since which item (profile): each that is set aside behind the last call that names it. It is so since the
-- first call that names it from which on it is so behind each that does; and of that call since the first item that names it and may have changed it, or else
-- the first that names it.
use Rattle.std.specs.Prelude.{◌≡◌, ℕ, Bool, true, false, not, if◌then◌else◌, List, [], ◌∷◌, ◌++◌, filter, bytes_eq}
use Rattle.std.specs.List.{list_any}
use Rattle.kmipa_msgs.specs.Messages.{RulesOf}
use Rattle.kmipa_passed.specs.Leaving.{empty}
use Rattle.kmipa_record.specs.Declarations.{DeclarationOf}
use Rattle.kmipa_aside.specs.Standing.{StandOf, is_aside}
use Rattle.kmipa_aside.specs.Worlds.{WorldOf, stand}
use Rattle.kmipa_bundle.specs.Composing.{DoesDeed}
use Rattle.kmipa_check.specs.Runs.{rules_declared}
use Rattle.kmipa_turns.specs.Steps.{StepOf}
use Rattle.kmipa_trail.specs.Leading.{deed_of}
use Rattle.kmipa_trail.specs.Opening.{DescribesWorld}
use Rattle.kmipa_unjudged.specs.Naming.{named_in}
use Rattle.kmipa_unjudged.specs.Told.{NamedOf}

-- ---- one item

abbrev pub is_of : List ℕ → NamedOf → Bool
is_of id n = bytes_eq n.id id

abbrev pub is_of_another : List ℕ → NamedOf → Bool
is_of_another id n = not (bytes_eq n.id id)

abbrev pub has_id : List NamedOf → List ℕ → Bool
has_id told id = list_any (is_of id) told

-- an item names an identifier that is set aside behind its call: it is told from here on, unless it is already
abbrev pub told_aside : List NamedOf → NamedOf → List NamedOf
told_aside told n = if has_id told n.id then told else told ++ n ∷ []

-- or it isn't, and is told no more
abbrev pub told_by : Bool → List NamedOf → NamedOf → List NamedOf
told_by true told n = told_aside told n
told_by false told n = if has_id told n.id then filter (is_of_another n.id) told else told

abbrev pub told_one : StandOf → List NamedOf → NamedOf → List NamedOf
told_one s told n = told_by (is_aside s n.id) told n

-- one after the other
abbrev pub told_each : StandOf → List NamedOf → List NamedOf → List NamedOf
told_each s told [] = told
told_each s told (n ∷ ns) = told_each s (told_one s told n) ns

-- ---- along a run

-- behind what is told already, the steps are taken one after the other from this world
abbrev pub TellsAlong : RulesOf → WorldOf → List NamedOf → List StepOf → WorldOf → List NamedOf → Type 0
TellsAlong rules w told [] w' told' = (w' ≡ w) × (told' ≡ told)
TellsAlong rules w told (s ∷ steps) w' told' =
    (v : WorldOf) × DoesDeed rules (deed_of s) w empty v empty × TellsAlong rules v (told_each (stand v) told (named_in s)) steps w' told'

-- THE DEFINITION: some world that the declaration describes has a run by these steps, along which these are told
pub record AreAside (declared : DeclarationOf) (steps : List StepOf) (told : List NamedOf) : Type 0 where
  pub start : WorldOf
  pub described : DescribesWorld declared start
  pub last : WorldOf
  pub along : TellsAlong (rules_declared declared) start [] steps last told
