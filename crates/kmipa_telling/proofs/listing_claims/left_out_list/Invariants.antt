use Rattle.std.proofs.Common.{take}
use Rattle.kmipa_json.specs.Told.{items_of}
use Rattle.kmipa_telling.specs.Lists.{AreObjects}
use Rattle.kmipa_telling.specs.ListingClaims.{TellsLeftOut}
use Rattle.kmipa_telling.proofs.listing_claims.left_out_list.Given as goal

-- the objects up to here stand in the list
abbrev pub invariant-left : goal.invariant-left
invariant-left l = AreObjects TellsLeftOut (take l.held-index l.left) (items_of l.list)
