use Rattle.std.proofs.Common.{get_or, refl, rules}
use Rattle.kmipa_json.specs.Told.{items_of, members_of}
use Rattle.kmipa_msgs.specs.declared.rules.Cause.{Cause as FailureCause}
use Rattle.kmipa_msgs.specs.declared.rules.Cause.TheVariants.{NotFound}
use Rattle.kmipa_telling.specs.FailingClaims.{behind_members}
use Rattle.kmipa_telling.proofs.ListLemmas.{one_told_more}
use Rattle.kmipa_telling.proofs.failing_claims.causes_list.Goals as goal

pub causes-preserved : goal.causes-preserved
causes-preserved c =
    let d : FailureCause = NotFound in
    one_told_more behind_members c.args.causes.now c.causes.cause-index d (get_or c.args.causes.now c.causes.cause-index d) (items_of c.causes.list) (items_of c.push_object.new.self)
    (members_of c.in_ok-behind_object.field-0) (search rules) refl c.causes.invariant c.in_ok-behind_object.ensures c.in_ok-push_object.ensures.ok
