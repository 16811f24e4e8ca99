-- Destroy.
use Rattle.std.specs.Prelude.{ℕ, List, Option}
use Rattle.kmipa_ops.specs.Changes.{change_deed}
use Rattle.kmipa_ops.specs.Row.{Deed}
use Rattle.kmipa_ops.specs.declared.change.Change.TheVariants.{Destroy}

abbrev pub destroy_deed : Option (List ℕ) → Deed
destroy_deed id = change_deed id Destroy
