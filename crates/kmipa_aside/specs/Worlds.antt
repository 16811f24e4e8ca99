-- What a run holds: an inventory, and what is set aside (profile).
use Rattle.std.specs.Prelude.{◌∷◌, [], ℕ, ℤ, true, if◌then◌else◌, List, map, Option, Some, None}
use Rattle.kmipa_object.specs.Inventory.{Thing, cards, place_of}
use Rattle.kmipa_object.specs.Lists.{updated}
use Rattle.kmipa_store.specs.Aside.{AsideOf, said_aside}
use Rattle.kmipa_aside.specs.Standing.{StandOf, is_judged}
use Rattle.kmipa_passed.specs.Leaving.{AsideOf as LeftOf, these, strangers, all, over}

-- An object that was set aside stands in the inventory as a body: as one that is destroyed. So it is never live, and nothing about it is judged.
pub record WorldOf : Type 0 where
  pub things : List Thing
  pub aside : AsideOf

abbrev pub stand : WorldOf → StandOf
stand w = record { cards = cards w.things; aside = w.aside }

-- a body, from this moment on
abbrev pub body : ℤ → Thing → Thing
body t o = record { card = record o.card { dates = record o.card.dates { destroy = Some t } }; bytes = None }

abbrev pub with_body : ℤ → Option ℕ → List Thing → List Thing
with_body t None V = V
with_body t (Some place) V = updated V place (body t)

-- the identifier is set aside, with the object that has it
abbrev pub set_aside : ℤ → List ℕ → WorldOf → WorldOf
set_aside t id w = record {
  things = with_body t (place_of id (cards w.things)) w.things;
  aside = record w.aside { ids = said_aside w.aside.ids id };
}

-- these are, one after the other
abbrev pub set_each_aside : ℤ → List (List ℕ) → WorldOf → WorldOf
set_each_aside t [] w = w
set_each_aside t (id ∷ ids) w = set_each_aside t ids (set_aside t id w)

-- unless a judged object has it
abbrev pub set_stranger_aside : ℤ → List ℕ → WorldOf → WorldOf
set_stranger_aside t id w = if is_judged (stand w) id then w else set_aside t id w

-- those of these that no judged object has
abbrev pub set_strangers_aside : ℤ → List (List ℕ) → WorldOf → WorldOf
set_strangers_aside t [] w = w
set_strangers_aside t (id ∷ ids) w = set_strangers_aside t ids (set_stranger_aside t id w)

-- from now on every identifier is that no object has
abbrev pub set_rest_aside : WorldOf → WorldOf
set_rest_aside w = record w { aside = record w.aside { rest = true } }

abbrev pub ids_of : List Thing → List (List ℕ)
ids_of V = map (λ (o : Thing). o.card.id) V

-- everything is: each object, and whatever else there may be
abbrev pub set_all_aside : ℤ → WorldOf → WorldOf
set_all_aside t w = set_rest_aside (set_each_aside t (ids_of w.things) w)

-- judging is over: everything is set aside, for good
abbrev pub end_judging : WorldOf → WorldOf
end_judging w = record w { aside = record w.aside { over = true } }

-- what an item leaves that isn't judged
abbrev pub with_left : ℤ → LeftOf → WorldOf → WorldOf
with_left t (these ids) w = set_each_aside t ids w
with_left t (strangers ids) w = set_strangers_aside t ids w
with_left t all w = set_all_aside t w
with_left t over w = end_judging w
