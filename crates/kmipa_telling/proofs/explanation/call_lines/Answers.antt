use Rattle.std.proofs.Common.{string_bytes, ◌∙◌, ap}
use Rattle.std.proofs.lemmas.Result.{IfOk-weaker}
use Rattle.kmipa_runs.specs.Shown.{quoted}
use Rattle.kmipa_telling.specs.Phrases.{calls_text}
use Rattle.kmipa_telling.proofs.ExplainedLemmas.{call_told}
use Rattle.kmipa_telling.proofs.explanation.call_lines.Goals as goal

pub returns : goal.returns
returns c =
    IfOk-weaker c.format.result _ _ (λ text e. call_told c.args.explanation.now (string_bytes c.in_ok-client.client) (string_bytes c.in_ok-operation.operation)
    (string_bytes c.in_ok-overlapping.overlapping) (string_bytes text) (c.in_ok-client.ensures ∙ ap quoted c.as_str.ensures.value)
    c.in_ok-operation.ensures (c.in_ok-overlapping.ensures ∙ ap calls_text c.deref.ensures.value) e) c.format.ensures.ok
