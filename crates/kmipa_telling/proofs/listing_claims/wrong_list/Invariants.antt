use Rattle.std.proofs.Common.{◌≡◌, take}
use Rattle.kmipa_json.specs.Told.{items_of}
use Rattle.kmipa_telling.specs.Lists.{objects}
use Rattle.kmipa_telling.specs.ListingClaims.{wrong_members}
use Rattle.kmipa_telling.proofs.listing_claims.wrong_list.Given as goal

-- the identifiers up to here stand in the list
abbrev pub invariant-wrong : goal.invariant-wrong
invariant-wrong l = items_of l.list ≡ objects wrong_members (take l.held-index l.wrong)
