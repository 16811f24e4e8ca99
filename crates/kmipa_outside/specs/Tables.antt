-- The demands of each operation.
use Rattle.std.specs.Prelude.{List, [], ◌++◌}
use Rattle.kmipa_msgs.specs.declared.operation.Operation.{Operation}
use Rattle.kmipa_msgs.specs.declared.operation.Operation.TheVariants.{Create, Register, Locate, Get, GetAttributes, Activate, Revoke, Destroy, Idle, Other}
use Rattle.kmipa_outside.specs.declared.demand.Demand.{Demand}
use Rattle.kmipa_outside.specs.AskedDemands.{create_demands, register_demands, locate_demands, get_demands, revoke_demands, identifier_demands}
use Rattle.kmipa_outside.specs.DoneDemands.{registered_demands, located_demands, got_demands, got_attributes_demands}
use Rattle.kmipa_outside.specs.SharedDemands.{block_demands, attribute_demands, client_demands, filter_demands}

-- of the children of a Request Payload
abbrev pub asked_demands : Operation → List Demand
asked_demands Create = create_demands ++ (attribute_demands ++ client_demands)
asked_demands Register = register_demands ++ (block_demands ++ (attribute_demands ++ client_demands))
asked_demands Locate = locate_demands ++ filter_demands
asked_demands Get = get_demands
asked_demands GetAttributes = identifier_demands
asked_demands Activate = identifier_demands
asked_demands Revoke = revoke_demands
asked_demands Destroy = identifier_demands
asked_demands (Idle n) = []
asked_demands (Other n) = []

-- of the children of a Response Payload
abbrev pub done_demands : Operation → List Demand
done_demands Create = registered_demands
done_demands Register = registered_demands
done_demands Locate = located_demands
done_demands Get = got_demands ++ block_demands
done_demands GetAttributes = got_attributes_demands ++ attribute_demands
done_demands Activate = identifier_demands
done_demands Revoke = identifier_demands
done_demands Destroy = identifier_demands
done_demands (Idle n) = []
done_demands (Other n) = []
