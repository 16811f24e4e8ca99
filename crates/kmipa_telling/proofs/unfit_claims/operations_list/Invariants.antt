use Rattle.std.proofs.Common.{◌≡◌, take}
use Rattle.kmipa_json.specs.Told.{items_of}
use Rattle.kmipa_telling.specs.EventClaims.{operation_members}
use Rattle.kmipa_telling.specs.Lists.{objects}
use Rattle.kmipa_telling.proofs.unfit_claims.operations_list.Given as goal

-- the operations up to here stand in the list
abbrev pub invariant-operations : goal.invariant-operations
invariant-operations l = items_of l.list ≡ objects operation_members (take l.operation-index l.operations)
