use Rattle.std.proofs.Common.{◌≤◌, ◌∙◌, List, [], ℕ, None, get_or, length, pos, refl, rules}
use denote.Bor.{Bor}
use Rattle.kmipa_json.specs.Told.{items_of, members_of}
use Rattle.kmipa_unjudged.specs.Told.{named_of}
use Rattle.kmipa_unjudged.specs.declared.named.Named.{Named}
use Rattle.kmipa_judge.specs.Object.{named_members}
use Rattle.kmipa_telling.proofs.ListLemmas.{one_told_more}
use Rattle.kmipa_judge.proofs.ObjectLemmas.{told_all, told_meant}
use Rattle.kmipa_judge.proofs.unjudged_object.aside_list.Goals as goal

pub aside-preserved : goal.aside-preserved
aside-preserved c =
    let id : Bor (List ℕ) = record { ref_ptr = (0, 0); now = [] } in
    let d : Named = record { id = id; origin = record { call = pos 0; item = 0; operation = None } } in
    one_told_more (λ n. named_members (named_of n)) c.args.aside.now c.aside.count d (get_or c.args.aside.now c.aside.count d) (items_of c.aside.list) (items_of c.push_object.new.self)
    (members_of c.in_ok-one.one) c.aside-test.true refl c.aside.invariant c.in_ok-one.ensures c.in_ok-push_object.ensures.ok

pub returns : goal.returns
returns c =
    let all : length c.args.aside.now ≤ c.aside.count = search rules in
    told_all (λ n. named_members (named_of n)) c.args.aside.now c.aside.count (items_of c.aside.list) all c.aside.invariant ∙ told_meant named_of named_members c.args.aside.now
