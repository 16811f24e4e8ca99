use Rattle.std.proofs.Common.{rules}
use Rattle.kmipa_json.specs.Told.{items_of, members_of}
use Rattle.kmipa_telling.specs.ListingClaims.{TellsLeftOut}
use Rattle.kmipa_telling.proofs.ListLemmas.{one_object_more}
use Rattle.kmipa_telling.proofs.listing_claims.left_out_list.Goals as goal

pub left-preserved : goal.left-preserved
left-preserved c =
    one_object_more TellsLeftOut c.args.left.now c.left.held-index c.held-item.result c.held-item.result (items_of c.left.list) (items_of c.push_object.new.self)
    (members_of c.in_ok-left_out_object.field-0) (search rules) c.held-item.is c.left.invariant c.in_ok-left_out_object.ensures c.in_ok-push_object.ensures.ok
