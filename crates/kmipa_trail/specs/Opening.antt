-- THE WORLD AT THE START of a recording, as a declaration describes it (profile).
use Rattle.std.specs.Prelude.{◌≡◌}
use Rattle.kmipa_record.specs.Declarations.{DeclarationOf}
use Rattle.kmipa_check.specs.Described.{Describes, aside_declared}
use Rattle.kmipa_aside.specs.Worlds.{WorldOf}

-- its objects are those that are declared, and so is what is set aside
pub record DescribesWorld (declared : DeclarationOf) (w : WorldOf) : Type 0 where
  pub things : Describes declared w.things
  pub aside : w.aside ≡ aside_declared declared
