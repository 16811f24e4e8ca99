use Rattle.std.proofs.Common.{◌≡◌, ◌++◌, List, ℕ, [], ap, sym, ◌∙◌, rules}
use Rattle.std.proofs.lemmas.List.{append-nil, nil_from_length}
use Rattle.hex.specs.Hex.{encode_with}
use Rattle.kmipa_runs.proofs.ShownLemmas.{digits_on, no_digits}
use Rattle.kmipa_runs.proofs.values.push_digits.Goals as goal

pub digits-preserved : goal.digits-preserved
digits-preserved g c =
    digits_on c.args.table.now (g.P.Printer.printed c.digits.out) (g.P.Printer.printed c.push_block.new.out) c.split_at.result.0.now c.split_at.result.1.now c.digits.left.now _
    c.split_at.ensures.by_index.0 c.in_ok-push_block.ensures.pushes c.digits.invariant

pub returns-clause-pushes : goal.returns-clause-pushes
returns-clause-pushes g c =
    let out = g.P.Printer.printed c.digits.out in
    let table : List ℕ = c.args.table.now in
    let none : c.digits.left.now ≡ [] = nil_from_length c.digits.left.now (search rules) in
    sym (append-nil out) ∙ sym (ap (λ (d : List ℕ). out ++ d) (ap (encode_with table) none ∙ no_digits table)) ∙ c.digits.invariant
