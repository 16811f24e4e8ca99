use Rattle.std.proofs.Common.{length, refl, string_bytes}
use Rattle.std.proofs.lemmas.Result.{IfOk-weaker}
use Rattle.kmipa_searches.proofs.DeepestLemmas.{taken_told}
use Rattle.kmipa_searches.proofs.deepest.taken_lines.Goals as goal

pub returns : goal.returns
returns c =
    IfOk-weaker c.format.result _ _ (λ text e. taken_told c.args.numbers.now c.saturating_sub.result (length c.args.numbers.now) (string_bytes c.in_ok-more.more) (string_bytes c.in_ok-calls.calls)
    (string_bytes text) c.saturating_sub.ensures refl c.in_ok-more.ensures c.in_ok-calls.ensures e) c.format.ensures.ok
