-- What a declaration grants its server (profile).
use Rattle.std.specs.Prelude.{◌≡◌, ℤ, pos, List, []}
use Rattle.kmipa_record.specs.Declarations.{DeclarationOf}
use Rattle.kmipa_record.specs.declared.own_attribute.OwnAttribute.{OwnAttribute}
use Rattle.kmipa_check.specs.declared.grants.Grants.{Grants}

-- how far moments may be from Time Stamps, in seconds, and the attributes that the server itself may give an object at birth
pub record GrantsOf : Type 0 where
  pub tolerance : ℤ
  pub own : List OwnAttribute

abbrev pub grants_declared : DeclarationOf → GrantsOf
grants_declared declared = record { tolerance = declared.settings.tolerance; own = declared.own_attributes }

-- it grants nothing: each call is taken at its Time Stamp, and what is born has what its client asked for
pub record GrantsNothing (g : GrantsOf) : Type 0 where
  pub tolerance : g.tolerance ≡ pos 0
  pub own : g.own ≡ []

-- what grants of the program mean
abbrev pub grants_of : Grants → GrantsOf
grants_of g = record { tolerance = g.tolerance; own = g.own.now }
