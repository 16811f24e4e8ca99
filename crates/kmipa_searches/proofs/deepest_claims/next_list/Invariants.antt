use Rattle.std.proofs.Common.{◌≡◌, take}
use Rattle.kmipa_json.specs.Told.{items_of}
use Rattle.kmipa_searches.specs.DeepestClaims.{next_members}
use Rattle.kmipa_telling.specs.Lists.{objects}
use Rattle.kmipa_searches.proofs.deepest_claims.next_list.Given as goal

-- the calls up to here stand in the list
abbrev pub invariant-next : goal.invariant-next
invariant-next l = items_of l.list ≡ objects next_members (take l.call-index l.next)
