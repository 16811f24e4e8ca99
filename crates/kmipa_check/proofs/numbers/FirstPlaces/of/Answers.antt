use Rattle.std.proofs.Common.{ℤ, Option, subst}
use Rattle.kmipa_check.specs.Numbers.{NotedIfAny}
use Rattle.kmipa_check.proofs.NumberLemmas.{index_more, index_all}
use Rattle.kmipa_check.proofs.numbers.FirstPlaces.of.Goals as goal

pub items-preserved : goal.items-preserved
items-preserved g c =
    let P : Option ℤ → Type 0 = λ v. NotedIfAny c.items.first c.note_any.new.self v c.items.place in
    index_more g.T.Numbered.number_in c.args.items.now c.items.place c.index-items-place.result c.items.first c.note_any.new.self c.items-test.true c.index-items-place.is
    (subst P c.number.ensures c.in_ok-note_any.ensures) c.items.invariant

pub returns : goal.returns
returns g c = index_all g.T.Numbered.number_in c.args.items.now c.items.place c.items.first c.items-test.false c.items.invariant
