-- WHAT IS SAID OF A RECORDING IN A WORD (profile).
use Rattle.std.specs.Prelude.{◌≡◌, ◌==◌, ◌↔◌, ◌⊎◌, ℕ, IsTrue, Bool, true, false, if◌then◌else◌, List, length, map}
use Rattle.kmipa_record.specs.Marks.{MarkOf}
use Rattle.kmipa_trail.specs.Tallies.{TallyOf}
use Rattle.kmipa_trail.specs.Told.{tally_of}
use Rattle.kmipa_findings.specs.Findings.{FindingOf}
use Rattle.kmipa_findings.specs.Told.{finding_of}
use Rattle.kmipa_findings.specs.declared.finding.Outcome.{Outcome}
use Rattle.kmipa_findings.specs.declared.finding.Outcome.TheVariants as outcome
use Rattle.kmipa_jobs.specs.declared.status.Status.{Status}
use Rattle.kmipa_jobs.specs.declared.status.Status.TheVariants as status
use Rattle.kmipa_judge.specs.Clients.{AreOfOne}
use Rattle.kmipa_judge.specs.declared.opinion.Opinion.{Opinion}
use Rattle.kmipa_judge.specs.declared.opinion.Opinion.TheVariants.{Explained, NothingJudged, Convicted, Suspected, Undecided}

-- the findings of an outcome, and how many calls were tried for it
abbrev pub findings_of : Outcome → List FindingOf
findings_of (outcome.Judged j) = map finding_of j.findings.items
findings_of (outcome.Undecided u) = map finding_of u.findings.items

abbrev pub steps_of : Outcome → ℕ
steps_of (outcome.Judged j) = j.steps
steps_of (outcome.Undecided u) = u.steps

-- where nothing was found: some item is judged, and nothing is set aside by the witness alone
abbrev pub opinion_unfound : TallyOf → Opinion
opinion_unfound k = if k.counts.judged == 0 then NothingJudged else (if k.excepted == 0 then Explained else Suspected)

-- where something was: by whether no order explains every answer
abbrev pub opinion_found : Bool → Opinion
opinion_found true = Convicted
opinion_found false = Suspected

abbrev pub opinion_by : ℕ → TallyOf → Bool → Opinion
opinion_by findings k decided = if findings == 0 then opinion_unfound k else opinion_found decided

abbrev pub opinion_of : Outcome → Opinion
opinion_of (outcome.Judged j) = opinion_by (length j.findings.items) (tally_of j.tally) j.is_decided
opinion_of (outcome.Undecided u) = Undecided

abbrev pub opinion_status : Opinion → Status
opinion_status Explained = status.Done
opinion_status NothingJudged = status.GaveUp
opinion_status Convicted = status.No
opinion_status Suspected = status.GaveUp
opinion_status Undecided = status.GaveUp

-- It counts unless it is only presumed that each client sees every object, or where all calls came from clients of one identity: else a server may have hidden
-- objects from some of them.
abbrev pub Counts : Bool → List MarkOf → Bool → Type 0
Counts presumed marks counts = IsTrue counts ↔ ((presumed ≡ false) ⊎ AreOfOne marks)

-- that no order explains every answer is said of an outcome only where it counts
abbrev pub IsFair : Bool → List MarkOf → Outcome → Type 0
IsFair presumed marks (outcome.Judged j) = j.is_decided ≡ true → presumed ≡ true → AreOfOne marks
IsFair presumed marks (outcome.Undecided u) = Unit {0}
