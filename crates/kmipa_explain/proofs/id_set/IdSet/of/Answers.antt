use Rattle.std.proofs.Common.{List, ℕ, map, subst, arith}
use Rattle.std.proofs.lemmas.List.{length-map, take_all}
use Rattle.kmipa_msgs.specs.Messages.{lent}
use Rattle.kmipa_explain.specs.Ids.{HasIds}
use Rattle.kmipa_explain.proofs.IdLemmas.{ids_next}
use Rattle.kmipa_explain.proofs.KeptLemmas.{read_at}
use Rattle.kmipa_explain.proofs.id_set.IdSet.of.Goals as goal

pub ids-preserved : goal.ids-preserved
ids-preserved c =
    ids_next (map lent c.args.ids.now) c.ids.place _ c.ids.set c.add.new.self (read_at lent c.args.ids.now c.ids.place _ c.ids-test.true) c.ids.invariant c.in_ok-_is_new.ensures.added

pub returns : goal.returns
returns c =
    let ids = map lent c.args.ids.now in
    let P : List (List ℕ) → Type 0 = λ l. HasIds l c.ids.set in
    subst P (take_all c.ids.place ids (omega (arith, c.ids-test.false, length-map c.args.ids.now lent))) c.ids.invariant
