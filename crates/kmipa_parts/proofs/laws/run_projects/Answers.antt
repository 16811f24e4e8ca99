use Rattle.kmipa_parts.proofs.CallLemmas.{run_projects_lem}
use Rattle.kmipa_parts.proofs.laws.run_projects.Goals as goal

pub returns : goal.returns
returns c = run_projects_lem
