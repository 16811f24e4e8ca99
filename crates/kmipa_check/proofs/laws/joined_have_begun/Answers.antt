use Rattle.kmipa_check.proofs.JoinLemmas.{joined_begun_lem}
use Rattle.kmipa_check.proofs.laws.joined_have_begun.Goals as goal

pub returns : goal.returns
returns c = joined_begun_lem
