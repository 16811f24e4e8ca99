use Rattle.std.proofs.Common.{rules}
use Rattle.kmipa_json.specs.Told.{items_of, members_of}
use Rattle.kmipa_telling.specs.NamingClaims.{name_members}
use Rattle.kmipa_telling.proofs.ListLemmas.{one_told_more}
use Rattle.kmipa_telling.proofs.attribute_claims.names_list.Goals as goal

pub names-preserved : goal.names-preserved
names-preserved c =
    one_told_more name_members c.args.names.now c.names.name-index c.name-item.result c.name-item.result (items_of c.names.list) (items_of c.push_object.new.self)
    (members_of c.in_ok-name_object.field-0) (search rules) c.name-item.is c.names.invariant c.in_ok-name_object.ensures c.in_ok-push_object.ensures.ok
