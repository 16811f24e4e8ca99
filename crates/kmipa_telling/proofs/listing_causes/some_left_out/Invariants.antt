use Rattle.std.proofs.Common.{take, string_bytes}
use Rattle.kmipa_telling.specs.Lists.{AreLines}
use Rattle.kmipa_telling.specs.ListingCauses.{PrintsLeftOut}
use Rattle.kmipa_telling.proofs.listing_causes.some_left_out.Given as goal

-- what is written tells the objects up to here
abbrev pub invariant-left : goal.invariant-left
invariant-left l = AreLines PrintsLeftOut (take l.held-index l.left) (string_bytes l.text)
