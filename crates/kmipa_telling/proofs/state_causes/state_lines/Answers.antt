use Rattle.std.proofs.Common.{◌∙◌, ◌++◌, ap, string_bytes}
use Rattle.std.proofs.lemmas.Result.{IfOk-weaker}
use Rattle.kmipa_telling.proofs.state_causes.state_lines.Goals as goal

pub returns : goal.returns
returns c =
    IfOk-weaker c.format.result _ _ (λ text e. (
      string_bytes c.in_ok-since.since,
      c.in_ok-since.ensures,
      e ∙ ap (λ t. t ++ string_bytes c.in_ok-since.since) c.in_ok-excluding.ensures,
    )) c.format.ensures.ok
