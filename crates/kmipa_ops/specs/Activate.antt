-- Activate.
use Rattle.std.specs.Prelude.{ℕ, List, Option}
use Rattle.kmipa_ops.specs.Changes.{change_deed}
use Rattle.kmipa_ops.specs.Row.{Deed}
use Rattle.kmipa_ops.specs.declared.change.Change.TheVariants.{Activate}

abbrev pub activate_deed : Option (List ℕ) → Deed
activate_deed id = change_deed id Activate
