use Rattle.std.proofs.lemmas.Result.{IfOk-weaker}
use Rattle.kmipa_judge.proofs.checking.lines.meaning_lines.Goals as goal

pub returns : goal.returns
returns c = IfOk-weaker c.explanation_lines.result _ _ (λ more p. (c.in_ok-meaning.meaning, c.in_ok-meaning.ensures, p)) c.explanation_lines.ensures
