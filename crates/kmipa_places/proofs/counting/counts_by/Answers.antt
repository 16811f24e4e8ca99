use Rattle.std.proofs.Common.{◌≡◌, true, refl, subst, rules, Option, Bool}
use Rattle.kmipa_ttlv.specs.ViewTree.{view_tree}
use Rattle.kmipa_places.specs.Counting.{asks_judged}
use Rattle.kmipa_places.specs.Counting.CountsBy.{by_request}
use Rattle.kmipa_places.specs.Openings.{Opened}
use Rattle.kmipa_places.specs.Places.{operation_at}
use Rattle.kmipa_places.specs.Readings.{way_of}
use Rattle.kmipa_places.proofs.CountingLemmas.{counts_so, unopened}
use Rattle.kmipa_places.proofs.counting.counts_by.Goals as goal

pub returns-in_default : goal.returns-in_default
returns-in_default c = λ request response o r. by_request refl (unopened request c.args.unordered (view_tree c.args.item.now) o c.in_default.is)

pub returns : goal.returns
returns c = λ request response o r.
    let t = view_tree c.args.item.now in
    let P : Option Bool → Type 0 = λ x. Opened request x in
    let judged : asks_judged (operation_at t) ≡ true = search rules in
    counts_so request response t (view_tree c.args.answer.now) c.in-Some.unordered c.args.unread (way_of c.in_ok-way.way) c.counted_by.result (subst P c.in-Some.is o) judged r c.in_ok-way.ensures c.counted_by.ensures
