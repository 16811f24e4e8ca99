use Rattle.std.proofs.Common.{None, get_or, pos, refl, rules}
use Rattle.kmipa_json.specs.Told.{items_of, members_of}
use Rattle.kmipa_orders.specs.declared.stuck.NextCall.{NextCall}
use Rattle.kmipa_searches.specs.DeepestClaims.{next_members}
use Rattle.kmipa_telling.proofs.ListLemmas.{one_told_more}
use Rattle.kmipa_searches.proofs.deepest_claims.next_list.Goals as goal

pub next-preserved : goal.next-preserved
next-preserved c =
    let d : NextCall = record { call = pos 0; refused = None } in
    one_told_more next_members c.args.next.now c.next.call-index d (get_or c.args.next.now c.next.call-index d) (items_of c.next.list) (items_of c.push_object.new.self)
    (members_of c.in_ok-next_object.field-0) (search rules) refl c.next.invariant c.in_ok-next_object.ensures c.in_ok-push_object.ensures.ok
