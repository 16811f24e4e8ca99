-- Whose the objects of a declaration are, as they are told where it is read piece by piece. Not promised.
use Rattle.std.specs.Prelude.{ℕ, List, [], ◌∷◌, ◌++◌, map, Option, Some, None}
use Rattle.std.specs.String.{string_bytes}
use Rattle.kmipa_object.specs.Inventory.{Card}
use Rattle.kmipa_msgs.specs.declared.rules.Visibility.{Visibility}
use Rattle.kmipa_msgs.specs.declared.rules.Visibility.TheVariants.{Everyone, MayHide, MustHide}
use Rattle.kmipa_aside.specs.Sights.{OwnedOf}
use Rattle.kmipa_trail.specs.Owners.{identity}
use Rattle.kmipa_beside.specs.declared.named.Named.{Named}

-- an object that is someone's: its identifier, and the client
pub record NamedOf : Type 0 where
  pub id : List ℕ
  pub client : List ℕ

abbrev pub named_of : Named → NamedOf
named_of n = record { id = string_bytes n.id; client = string_bytes n.client }

-- its owner
abbrev pub owned_as : NamedOf → OwnedOf
owned_as n = record { id = n.id; owner = identity n.client }

-- one object, where it has an owner
abbrev pub named_at : Option Card → Option (Option (List ℕ)) → List NamedOf
named_at (Some c) (Some (Some client)) = record { id = c.id; client = client } ∷ []
named_at c owner = []

-- all of them
abbrev pub named_from : List Card → List (Option (List ℕ)) → List NamedOf
named_from [] owners = []
named_from (c ∷ cs) [] = []
named_from (c ∷ cs) (o ∷ owners) = named_at (Some c) (Some o) ++ named_from cs owners

-- where each client sees every object, none is anyone's
abbrev pub owners_by : Visibility → List OwnedOf → List OwnedOf
owners_by Everyone owners = []
owners_by MayHide owners = owners
owners_by MustHide owners = owners
