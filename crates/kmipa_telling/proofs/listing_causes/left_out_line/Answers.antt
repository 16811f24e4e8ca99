use Rattle.std.proofs.Common.{◌∙◌, ◌++◌, ap, codes, string_bytes}
use Rattle.std.proofs.lemmas.Result.{IfOk-weaker}
use Rattle.kmipa_runs.specs.Shown.{quoted}
use Rattle.kmipa_telling.proofs.listing_causes.left_out_line.Goals as goal

pub returns : goal.returns
returns c =
    let initial = string_bytes c.in_ok-initial.initial in
    IfOk-weaker c.format.result _ _ (λ text e. (
      initial,
      c.in_ok-initial.ensures,
      e ∙ ap (λ t. codes "left out: " ++ (t ++ (codes ", " ++ initial))) (c.in_ok-identifier.ensures ∙ ap quoted c.as_str.ensures.value),
    )) c.format.ensures.ok
