-- How it is found out whose objects there are. Not promised: `Owners` says it.
use Rattle.std.specs.Prelude.{ℕ, Bool, List, bytes_eq}
use Rattle.std.specs.List.{list_any}
use Rattle.kmipa_aside.specs.Sights.{OwnedOf}

-- someone's
abbrev pub is_owned : List ℕ → List OwnedOf → Bool
is_owned id owners = list_any (λ (o : OwnedOf). bytes_eq id o.id) owners
