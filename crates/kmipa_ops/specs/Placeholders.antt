-- The identifier that the ID Placeholder holds.
use Rattle.std.specs.Prelude.{ℕ, List, Option, option_map}
use Rattle.std.specs.String.{string_bytes}
use Rattle.kmipa_ops.specs.declared.placeholder.Placeholder.{Placeholder}

abbrev pub placeholder_of : Placeholder → Option (List ℕ)
placeholder_of p = option_map string_bytes p.id
