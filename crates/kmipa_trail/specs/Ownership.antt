-- WHOSE AN OBJECT IS, said of the order alone (profile). `Owners` computes it, step by step; that both agree is a law.
use Rattle.std.specs.Prelude.{◌≡◌, List, [], ◌∷◌, ◌++◌, ℕ, Contains, Some}
use Rattle.kmipa_msgs.specs.declared.rules.Visibility.{Visibility}
use Rattle.kmipa_record.specs.Declarations.{DeclarationOf}
use Rattle.kmipa_record.specs.Entries.{EntryOf}
use Rattle.kmipa_aside.specs.Sights.{OwnedOf}
use Rattle.kmipa_turns.specs.Steps.{StepOf}
use Rattle.kmipa_trail.specs.Owners.{births_in, identity, owners_behind}

-- the call of this step gives birth to an object of this identifier
abbrev pub GivesBirth : StepOf → List ℕ → Type 0
GivesBirth s id = Contains (births_in s.taken) id

-- none of these does
abbrev pub GiveNoBirth : List StepOf → List ℕ → Type 0
GiveNoBirth steps id = (s : StepOf) → Contains steps s → GivesBirth s id → ⊥

-- the declaration names this owner for the object
pub record IsDeclaredOwner (declared : DeclarationOf) (id owner : List ℕ) : Type 0 where
  pub entry : EntryOf
  pub there : Contains declared.entries entry
  pub named : entry.id ≡ id
  pub client : List ℕ
  pub has : entry.owner ≡ Some client
  pub is : owner ≡ identity client

-- THE DEFINITION. Behind these steps the object is the client's whose call gave birth to it last; or, where none did, the one's that the declaration names.
pub data IsOwnedBy (declared : DeclarationOf) (steps : List StepOf) (id owner : List ℕ) : Type 0 where
  by_birth : (before after : List StepOf) (s : StepOf) → steps ≡ before ++ s ∷ after → GivesBirth s id → GiveNoBirth after id → owner ≡ identity s.client → IsOwnedBy declared steps id owner
  by_declaration : GiveNoBirth steps id → IsDeclaredOwner declared id owner → IsOwnedBy declared steps id owner

-- whose the objects are behind these steps, as it is computed
abbrev pub owners_after : Visibility → List OwnedOf → List StepOf → List OwnedOf
owners_after v owners [] = owners
owners_after v owners (s ∷ steps) = owners_after v (owners_behind v owners s) steps
