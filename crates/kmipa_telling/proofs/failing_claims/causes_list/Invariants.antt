use Rattle.std.proofs.Common.{◌≡◌, take}
use Rattle.kmipa_json.specs.Told.{items_of}
use Rattle.kmipa_telling.specs.Lists.{objects}
use Rattle.kmipa_telling.specs.FailingClaims.{behind_members}
use Rattle.kmipa_telling.proofs.failing_claims.causes_list.Given as goal

-- the causes up to here stand in the list
abbrev pub invariant-causes : goal.invariant-causes
invariant-causes l = items_of l.list ≡ objects behind_members (take l.cause-index l.causes)
