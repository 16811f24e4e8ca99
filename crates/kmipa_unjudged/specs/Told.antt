-- what an item of the program means that names an identifier
use Rattle.std.specs.Prelude.{ℕ, List}
use Rattle.kmipa_unjudged.specs.declared.named.Named.{Named}
use Rattle.kmipa_unjudged.specs.declared.named.Origin.{Origin}

-- the identifier, and the item that names it
pub record NamedOf : Type 0 where
  pub id : List ℕ
  pub origin : Origin

abbrev pub named_of : Named → NamedOf
named_of n = record { id = n.id.now; origin = n.origin }
