-- What is seen of a world, or of a ledger, where it is asked what is set aside (profile).
use Rattle.std.specs.Prelude.{◌||◌, ◌&&◌, ℕ, Bool, not, is_some, List}
use Rattle.kmipa_object.specs.Inventory.{Card, place_of}
use Rattle.kmipa_store.specs.Aside.{AsideOf, is_named_aside}

-- the objects but for their bytes, and what is set aside
pub record StandOf : Type 0 where
  pub cards : List Card
  pub aside : AsideOf

-- an object has the identifier, a body counted
abbrev pub has : StandOf → List ℕ → Bool
has s id = is_some (place_of id s.cards)

-- nothing is judged about the identifier: judging is over, or it was set aside by its name, or with all that no object has
abbrev pub is_aside : StandOf → List ℕ → Bool
is_aside s id = s.aside.over || is_named_aside s.aside id || (s.aside.rest && not (has s id))

-- an object has the identifier, and is judged
abbrev pub is_judged : StandOf → List ℕ → Bool
is_judged s id = has s id && not (is_aside s id)
