-- What is known of the seals of a transcript that was searched.
use Rattle.std.proofs.Common.{◌≡◌, ◌⊎◌, inl, inr, List, [], ℕ, Option, Result, Ok, Err}
use Rattle.kmipa_ttlv.specs.Input.{came_of}
use Rattle.kmipa_ttlv.specs.declared.input.Input.{Input}
use Rattle.kmipa_record.specs.declared.head.Head.{Head}
use Rattle.kmipa_runs.proofs.KnowingLemmas.{knows}
use Rattle.kmipa_runs.specs.Knowing.{KnowsSeals}
use Rattle.kmipa_jobs.specs.Statuses.{IsSilent}
use Rattle.kmipa_jobs.specs.declared.status.Status.{Status}
use Rattle.kmipa_telling.specs.Seals.{KnowsJudged}
use Rattle.kmipa_telling.specs.declared.meaning.FaultTold.{FaultTold}
use Rattle.kmipa_telling.proofs.SealLemmas.{fault_knows, silent_knows}
use Rattle.kmipa_searches.specs.JsonSearches.{PrintsJsonSearch}
use Rattle.kmipa_searches.specs.declared.judged.Judged.{Judged}

pub search_knows : {R : Type 0} (torn : Option ℕ) (t d : Input R) (outcome : Result Judged FaultTold) (said : Status) (lines made : List ℕ) (head : Option Head)
    → KnowsJudged outcome (came_of t) head → PrintsJsonSearch torn t d outcome said lines made ⊎ (IsSilent said lines × (made ≡ [])) → KnowsSeals (came_of t) said head
search_knows torn t d (Ok judged) said lines made head known reported = knows (came_of t) said head known
search_knows torn t d (Err fault) said lines made head known (inl (none, (k, told, judged, (without, tells, more), e))) = fault_knows (came_of t) fault.fault said head tells.0
search_knows torn t d (Err fault) said lines made head known (inr silent) = silent_knows (came_of t) said lines head silent.0
