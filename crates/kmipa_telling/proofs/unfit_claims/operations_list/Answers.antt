use Rattle.std.proofs.Common.{get_or, refl, rules}
use Rattle.kmipa_json.specs.Told.{items_of, members_of}
use Rattle.kmipa_telling.specs.EventClaims.{operation_members}
use Rattle.kmipa_telling.proofs.ListLemmas.{one_told_more}
use Rattle.kmipa_telling.proofs.unfit_claims.operations_list.Goals as goal

pub operations-preserved : goal.operations-preserved
operations-preserved c =
    one_told_more operation_members c.args.operations.now c.operations.operation-index 0 (get_or c.args.operations.now c.operations.operation-index 0) (items_of c.operations.list) (items_of c.push_object.new.self)
    (members_of c.in_ok-operation_object.field-0) (search rules) refl c.operations.invariant c.in_ok-operation_object.ensures c.in_ok-push_object.ensures.ok
