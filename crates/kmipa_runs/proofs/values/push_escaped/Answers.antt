use Rattle.std.proofs.Common.{◌≡◌, ◌++◌, ◌∷◌, [], List, ℕ, codes, ap, ◌∙◌, sym, rules}
use Rattle.std.proofs.lemmas.Result.{on_ok_weaker}
use Rattle.hex.specs.Hex.{encode_lower}
use Rattle.kmipa_runs.specs.Shown.{escaped}
use Rattle.kmipa_runs.proofs.AppendLemmas.{pushed_on}
use Rattle.kmipa_runs.proofs.values.push_escaped.Goals as goal

pub returns-clause-pushes : goal.returns-clause-pushes
returns-clause-pushes g c =
    let printed = g.P.Printer.printed in
    let b = c.args.byte in
    let old = printed c.args.out.now in
    let digits = encode_lower (b ∷ []) in
    let is : escaped b ≡ codes "\\x" ++ digits = search (rules, c.is_plain.ensures, c.if-is_plain.false) in
    on_ok_weaker c.push_block.result
    (λ e. pushed_on old (printed c.print-2.new.self) (printed c.push_block.new.out) (codes "\\x") digits c.in_ok-print.ensures.prints e ∙ ap (λ (l : List ℕ). old ++ l) (sym is))
    c.push_block.ensures.pushes
