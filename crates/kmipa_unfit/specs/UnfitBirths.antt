-- What is told of the births that a turn gives.
use Rattle.std.specs.Prelude.{◌≡◌, ◌<◌, ℕ, ◌+◌, ℤ, List, map, Some, slice_get}
use Rattle.kmipa_msgs.specs.Messages.{RequestOf, ResponseOf}
use Rattle.kmipa_record.specs.Witnesses.{BirthOf}
use Rattle.kmipa_check.specs.Births.{AreBirthsWanted, IsMisformed}
use Rattle.kmipa_check.specs.Grants.{GrantsOf}
use Rattle.kmipa_unfit.specs.declared.explanation.FormlessBirth.{FormlessBirth}

-- the items that the births name
abbrev pub items_born : List BirthOf → List ℤ
items_born births = map (λ (b : BirthOf). b.item) births

-- the birth at this place gives no attributes that the server may give
pub record IsMisformedAt (g : GrantsOf) (births : List BirthOf) (place : ℕ) : Type 0 where
  pub birth : BirthOf
  pub there : slice_get births place ≡ Some birth
  pub misformed : IsMisformed g birth

-- each birth is wanted, and this is the first that gives no attributes that the server may give, and the item that it names
pub record IsFormlessBirth (g : GrantsOf) (request : RequestOf) (response : ResponseOf) (births : List BirthOf) (f : FormlessBirth) : Type 0 where
  pub wanted : AreBirthsWanted request response births
  pub place : ℕ
  pub counted : f.birth ≡ place + 1
  pub birth : BirthOf
  pub there : slice_get births place ≡ Some birth
  pub names : birth.item ≡ f.item
  pub misformed : IsMisformed g birth
  pub before : (earlier : ℕ) → earlier < place → IsMisformedAt g births earlier → ⊥
