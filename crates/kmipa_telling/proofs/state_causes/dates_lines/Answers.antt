use Rattle.std.proofs.Common.{string_bytes}
use Rattle.std.proofs.lemmas.Result.{IfOk-weaker}
use Rattle.kmipa_telling.proofs.state_causes.dates_lines.Goals as goal

pub returns : goal.returns
returns c =
    IfOk-weaker c.format.result _ _ (λ text e. record {
      initial = string_bytes c.in_ok-initial.initial;
      tells_initial = c.in_ok-initial.ensures;
      activation = string_bytes c.in_ok-activation.activation;
      tells_activation = c.in_ok-activation.ensures;
      deactivation = string_bytes c.in_ok-deactivation.deactivation;
      tells_deactivation = c.in_ok-deactivation.ensures;
      destroy = string_bytes c.in_ok-destroy.destroy;
      tells_destroy = c.in_ok-destroy.ensures;
      compromise = string_bytes c.in_ok-compromise.compromise;
      tells_compromise = c.in_ok-compromise.ensures;
      are = e;
    }) c.format.ensures.ok
