use Rattle.std.proofs.Common.{◌≡◌, ◌∙◌, ℕ, List, [], false, map, take, get_or, sym, subst, arith}
use Rattle.std.proofs.lemmas.List.{take_all, take_more}
use Rattle.kmipa_msgs.specs.Messages.{lent}
use Rattle.kmipa_parts.specs.Parts.{is_among}
use Rattle.kmipa_parts.proofs.MakingLemmas.{among_at, among_past}
use Rattle.kmipa_parts.proofs.item.is_among.Goals as goal
use denote.Bor.{Bor}

pub returns-then-is_same : goal.returns-then-is_same
returns-then-is_same c =
    let d : Bor (List ℕ) = record { ref_ptr = (0, 0); now = [] } in
    sym (among_at c.args.ids.now c.ids.own-index d c.args.id.now c.ids-test.true (sym c.is_same.ensures ∙ c.if-is_same.true))

pub ids-preserved : goal.ids-preserved
ids-preserved c =
    let d : Bor (List ℕ) = record { ref_ptr = (0, 0); now = [] } in
    let i = c.ids.own-index in
    let x = get_or c.args.ids.now i d in
    let P : List (Bor (List ℕ)) → Type 0 = λ xs. is_among (map lent xs) c.args.id.now ≡ false in
    subst P (sym (take_more c.args.ids.now i d c.ids-test.true)) (among_past (take i c.args.ids.now) x c.args.id.now c.ids.invariant (sym c.is_same.ensures ∙ c.if-is_same.false))

pub returns : goal.returns
returns c =
    let P : List (Bor (List ℕ)) → Type 0 = λ xs. is_among (map lent xs) c.args.id.now ≡ false in
    sym (subst P (take_all c.ids.own-index c.args.ids.now (omega (arith, c.ids-test.false))) c.ids.invariant)
