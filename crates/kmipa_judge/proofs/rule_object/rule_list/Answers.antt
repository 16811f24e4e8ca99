use Rattle.std.proofs.Common.{◌≤◌, get_or, length, refl, rules}
use Rattle.kmipa_json.specs.Told.{items_of, members_of}
use Rattle.kmipa_judge.specs.Object.{rule_members}
use Rattle.kmipa_judge.specs.declared.rule.Rule.{Rule}
use Rattle.kmipa_judge.specs.declared.rule.Rule.TheVariants.{Tolerance}
use Rattle.kmipa_telling.proofs.ListLemmas.{one_told_more}
use Rattle.kmipa_judge.proofs.ObjectLemmas.{told_all}
use Rattle.kmipa_judge.proofs.rule_object.rule_list.Goals as goal

pub rules-preserved : goal.rules-preserved
rules-preserved c =
    let d : Rule = Tolerance in
    one_told_more rule_members c.args.rules.now c.rules.count d (get_or c.args.rules.now c.rules.count d) (items_of c.rules.list) (items_of c.push_object.new.self)
    (members_of c.in_ok-one.one) c.rules-test.true refl c.rules.invariant c.in_ok-one.ensures c.in_ok-push_object.ensures.ok

pub returns : goal.returns
returns c =
    let all : length c.args.rules.now ≤ c.rules.count = search rules in
    told_all rule_members c.args.rules.now c.rules.count (items_of c.rules.list) all c.rules.invariant
