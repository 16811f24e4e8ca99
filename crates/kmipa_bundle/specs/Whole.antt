-- Calls that were read have their places.
use Rattle.std.specs.Prelude.{ℤ, List}
use Rattle.kmipa_ttlv.specs.Tree.{Tree}
use Rattle.kmipa_places.specs.Calls.{IsRead, ReadOf}
use Rattle.kmipa_bundle.specs.Bundles.{IsWhole}

-- whatever its messages are, and whatever its turn sets aside
abbrev pub ReadCallsAreWhole : Type 0
ReadCallsAreWhole = (request response : Tree) (asides : List ℤ) (c : ReadOf) → IsRead request response asides c → IsWhole c
