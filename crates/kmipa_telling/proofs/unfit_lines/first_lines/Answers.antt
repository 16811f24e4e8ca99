use Rattle.std.proofs.Common.{◌∙◌, ◌++◌, ap, get_or, refl, rules, string_bytes}
use Rattle.kmipa_telling.specs.UnfitLines.{asked_line}
use Rattle.kmipa_telling.proofs.ListLemmas.{one_text_more}
use Rattle.kmipa_telling.proofs.unfit_lines.first_lines.Goals as goal

pub operations-preserved : goal.operations-preserved
operations-preserved c =
    one_text_more asked_line c.args.operations.now c.operations.operation-index 0 (get_or c.args.operations.now c.operations.operation-index 0) (string_bytes c.operations.text)
    (string_bytes c.in_ok-one.one) (string_bytes c.push_str.new.self) (search rules) refl
    c.operations.invariant c.in_ok-one.ensures (c.in_ok-push_str.ensures.bytes ∙ ap (λ t. string_bytes c.operations.text ++ t) c.as_str.ensures.value)
