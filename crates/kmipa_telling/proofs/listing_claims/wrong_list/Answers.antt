use Rattle.std.proofs.Common.{rules}
use Rattle.kmipa_json.specs.Told.{items_of, members_of}
use Rattle.kmipa_telling.specs.ListingClaims.{wrong_members}
use Rattle.kmipa_telling.proofs.ListLemmas.{one_told_more}
use Rattle.kmipa_telling.proofs.listing_claims.wrong_list.Goals as goal

pub wrong-preserved : goal.wrong-preserved
wrong-preserved c =
    one_told_more wrong_members c.args.wrong.now c.wrong.held-index c.held-item.result c.held-item.result (items_of c.wrong.list) (items_of c.push_object.new.self)
    (members_of c.in_ok-wrong_object.field-0) (search rules) c.held-item.is c.wrong.invariant c.in_ok-wrong_object.ensures c.in_ok-push_object.ensures.ok
