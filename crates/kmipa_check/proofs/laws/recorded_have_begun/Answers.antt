use Rattle.kmipa_check.proofs.JoinLemmas.{recorded_begun_lem}
use Rattle.kmipa_check.proofs.laws.recorded_have_begun.Goals as goal

pub returns : goal.returns
returns c = recorded_begun_lem
