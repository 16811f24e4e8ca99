use Rattle.std.proofs.Common.{◌≤◌, get_or, length, refl, rules}
use Rattle.kmipa_json.specs.Told.{items_of, members_of}
use Rattle.kmipa_unjudged.specs.declared.rank.Rank.{Rank}
use Rattle.kmipa_judge.specs.Object.{passed_members}
use Rattle.kmipa_telling.proofs.ListLemmas.{one_told_more}
use Rattle.kmipa_judge.proofs.ObjectLemmas.{told_all}
use Rattle.kmipa_judge.proofs.unjudged_object.passed_list.Goals as goal

pub ranks-preserved : goal.ranks-preserved
ranks-preserved c =
    let d : Rank = record { operation = 0; count = 0 } in
    one_told_more passed_members c.args.ranks.now c.ranks.count d (get_or c.args.ranks.now c.ranks.count d) (items_of c.ranks.list) (items_of c.push_object.new.self)
    (members_of c.in_ok-one.one) c.ranks-test.true refl c.ranks.invariant c.in_ok-one.ensures c.in_ok-push_object.ensures.ok

pub returns : goal.returns
returns c =
    let all : length c.args.ranks.now ≤ c.ranks.count = search rules in
    told_all passed_members c.args.ranks.now c.ranks.count (items_of c.ranks.list) all c.ranks.invariant
